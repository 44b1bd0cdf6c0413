use Rattle.std.proofs.Common.{refl}
use Rattle.replica.proofs.law_replica_examples.Goals as goal

pub returns : goal.returns
returns g c = record {
  told = λ a. (refl, refl);
  unanswered = λ a. refl;
  forgotten = λ a. refl;
  old_answer = λ a. refl;
  lost = λ a. refl;
  early = λ a b. refl;
  late = λ a b. refl;
  twice = λ a. refl;
}
