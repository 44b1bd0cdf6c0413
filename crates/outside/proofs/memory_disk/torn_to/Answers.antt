use Rattle.std.proofs.Common.{rules, ◌≡◌, ◌≤◌, ◌++◌, ℕ, List, length, ◌∙◌, ap}
use Rattle.outside.specs.Disk.{Holds}
use Rattle.outside.specs.RecordLaws.{torn_front}
use Rattle.outside.proofs.memory_disk.torn_to.Goals as goal

pub returns : goal.returns
returns c =
    let within : c.args.at ≤ length c.args.image.now = search rules in
    let short : length c.args.left.now ≤ c.args.size = search rules in
    let holds : Holds c.args.image.now c.args.at c.args.left.now c.in_ok-new.new.items = search rules in
    let grown : c.extend_from_slice.new.self.items ≡ c.in_ok-new.new.items ++ c.args.past_the_end.now = search rules in
    torn_front c.args.at c.args.size c.args.image.now c.args.left.now c.args.past_the_end.now _ within short
    (grown ∙ ap (λ (l : List ℕ). l ++ c.args.past_the_end.now) holds)
