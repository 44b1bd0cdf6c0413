-- The numbers of a line, one after the other.
use Rattle.std.proofs.Common.{◌≡◌, List, ◌∷◌, sym, ap, ◌∙◌}
use Rattle.cqe_base.specs.Schema.{Text}
use Rattle.dimacs_text.specs.Words.{signed_number_in}
use Rattle.dimacs_text.specs.Dimacs.{Problem, Step, with_number_word, with_numbers, then_step}
use Rattle.dimacs_text.specs.Refuses.{Refuses}
use Rattle.dimacs_text.specs.declared.refusal.LineError.{LineError}
use Rattle.dimacs_text.specs.declared.refusal.LineError.TheVariants.{Refused, Memory}

-- a number that is refused refuses the line
pub number_refused : (p : Problem) (word : Text) (rest : List Text) (all : Step) (error : LineError) → with_numbers p (word ∷ rest) ≡ all
    → Refuses (with_number_word p (signed_number_in word)) error → Refuses all error
number_refused p word rest all (Refused kind) is h = sym is ∙ ap (λ (s : Step). then_step s (λ next. with_numbers next rest)) h
number_refused p word rest all Memory is h = tt
