use Rattle.std.proofs.Common.{◌≡◌, ◌+◌, ◌++◌, ◌∷◌, [], length, take, refl, sym, ap, ◌∙◌, append-nil, arith}
use Rattle.std.specs.Prelude.{bytes_eq, if◌then◌else◌, None, vec_len, vec_capacity}
use Rattle.std.specs.List.{list_any}
use Rattle.std.proofs.lemmas.List.{take_all, length-map, length-take-le}
use Rattle.desk_crew.specs.Crew.{is_named}
use Rattle.desk_crew.proofs.Taken.{map_more}
use Rattle.batch_engine.specs.Answers.{answer_to, strangers_from}
use Rattle.batch_engine.specs.Batches.{ask_in, asks_in}
use Rattle.batch_engine.specs.Posts.{names_of}
use Rattle.batch_engine.proofs.Shorts.{short_here}
use Rattle.batch_engine.proofs.Posts.{stranger, strangers_from-push, any_named}
use Rattle.batch_engine.proofs.post.strangers.Given.{Over}
use Rattle.batch_engine.proofs.post.strangers.Goals as goal
use Rattle.batch_engine.proofs.post.strangers.Goals.{then-not-is_known, else-not-is_known, After-is_known}

pub loop-number-init : goal.loop-number-init
loop-number-init g c =
    let empty = ap length c.requires.empty in
    let len = c.args.room.ok.0 in
    record { so_far = c.requires.empty; few = omega (arith, empty, len); room = refl }

-- whether some user has the name of the ask
known : (g : Over) (c : After-is_known g)
    → c.is_known.result ≡ list_any (λ name. bytes_eq name (ask_in c.index-asks-number.result).name) (names_of c.args.posts.now)
known g c =
    c.is_known.ensures ∙ ap (λ n. list_any (λ p. is_named n p.seat) c.args.posts.now) c.as_str.ensures.value
    ∙ any_named (ask_in c.index-asks-number.result).name c.args.posts.now

-- the answers to strangers among one more ask
more : (g : Over) (c : After-is_known g)
    → strangers_from 0 (asks_in (take (c.loop-number.number + 1) c.args.asks.now)) (names_of c.args.posts.now)
    ≡ strangers_from 0 (asks_in (take c.loop-number.number c.args.asks.now)) (names_of c.args.posts.now)
    ++ (if c.is_known.result then [] else answer_to c.loop-number.number (ask_in c.index-asks-number.result) None ∷ [])
more g c =
    let number = c.loop-number.number in
    let ask = c.index-asks-number.result in
    let names = names_of c.args.posts.now in
    let low = c.loop-number-test.true in
    let first = asks_in (take number c.args.asks.now) in
    let many : length first ≡ number = length-map (take number c.args.asks.now) ask_in ∙ length-take-le number c.args.asks.now (omega (arith, low)) in
    let here : 0 + length first ≡ number = omega (arith, many) in
    ap (λ l. strangers_from 0 l names) (map_more ask_in c.args.asks.now number ask low c.index-asks-number.is)
    ∙ strangers_from-push 0 first (ask_in ask) names
    ∙ ap (λ n. strangers_from 0 first names ++ stranger n names (ask_in ask)) here
    ∙ ap (λ b. strangers_from 0 first names ++ (if b then [] else answer_to number (ask_in ask) None ∷ [])) (sym (known g c))

pub answer_to-requires : goal.answer_to-requires
answer_to-requires g c =
    short_here c.args.asks.now c.loop-number.number c.index-asks-number.result c.loop-number-test.true c.index-asks-number.is c.requires.short

pub push_reserved-requires : goal.push_reserved-requires
push_reserved-requires g c =
    let few = c.loop-number.invariant.few in
    let room = c.loop-number.invariant.room in
    let low = c.loop-number-test.true in
    omega (arith, few, room, low, c.requires.room)

pub loop-number-preserved : goal.loop-number-preserved
loop-number-preserved g c =
    let so_far = c.loop-number.invariant in
    let few = so_far.few in
    let before = c.loop-number.answers.items in
    let grown = more g (goal.at.loop-number-preserved g c).After-is_known in
    let first = strangers_from 0 (asks_in (take c.loop-number.number c.args.asks.now)) (names_of c.args.posts.now) in
    let answer = answer_to c.loop-number.number (ask_in c.index-asks-number.result) None in
    elim c.if-not-is_known.branch [
      | then-not-is_known w ↦
          let pushed = ap (λ v. v.items) w.answers-is ∙ w.push_reserved.ensures.items
          ∙ ap (λ a. before ++ a ∷ []) w.answer_to.ensures in
          let one_more = ap vec_len w.answers-is ∙ w.push_reserved.ensures.len in
          record {
            so_far = pushed ∙ ap (λ l. l ++ answer ∷ []) so_far.so_far
                ∙ ap (λ b. first ++ (if b then [] else answer ∷ [])) (sym w.if-not-is_known.true) ∙ sym grown;
            few = omega (arith, few, one_more);
            room = ap vec_capacity w.answers-is ∙ w.push_reserved.ensures.capacity ∙ so_far.room;
          }
      | else-not-is_known w ↦
          let same = ap vec_len w.answers-is in
          record {
            so_far = ap (λ v. v.items) w.answers-is ∙ so_far.so_far ∙ sym (append-nil first)
                ∙ ap (λ b. first ++ (if b then [] else answer ∷ [])) (sym w.if-not-is_known.false) ∙ sym grown;
            few = omega (arith, few, same);
            room = ap vec_capacity w.answers-is ∙ so_far.room;
          }
    ]

pub returns : goal.returns
returns g c =
    record {
      answers = c.loop-number.invariant.so_far
          ∙ ap (λ l. strangers_from 0 (asks_in l) (names_of c.args.posts.now))
          (take_all c.loop-number.number c.args.asks.now (omega (arith, c.loop-number-test.false)));
      capacity = c.loop-number.invariant.room;
    }
