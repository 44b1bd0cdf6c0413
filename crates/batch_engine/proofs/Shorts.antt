-- What short asks are short of.
use Rattle.std.proofs.Common.{◌≡◌, ◌≤◌, ℕ, true, List, [], ◌∷◌, length, map, get_or, ◌<◌, zero, suc, ap, subst, ◌∙◌, arith}
use Rattle.std.specs.Prelude.{nat_le, decimal}
use Rattle.std.specs.List.{list_all}
use Rattle.std.proofs.lemmas.Fmt.{length-decimal-le}
use Rattle.std.proofs.lemmas.Bool.{and_parts}
use Rattle.batch_engine.specs.BatchLines.{NamedAsk}
use Rattle.batch_engine.specs.Said.{is_short_ask}
use Rattle.batch_engine.specs.Callers.{caller_in, is_short_caller}
use Rattle.batch_engine.specs.declared.line.Caller.{Caller}
use Rattle.batch_engine.specs.declared.line.Caller.TheVariants.{Session}
use Rattle.batch_engine.specs.Batches.{ask_in}
use Rattle.batch_engine.specs.declared.batch.BatchAsk.{BatchAsk}

-- its name, its caller and its text
pub short_ask : (ask : NamedAsk) → is_short_ask ask ≡ true → (length ask.name ≤ 32) × (is_short_caller ask.caller ≡ true) × (length ask.text ≤ 4096)
short_ask ask e =
    let outer = and_parts _ _ e in
    let inner = and_parts _ _ outer.0 in
    let name : nat_le (length ask.name) 32 ≡ true = inner.0 in
    let text : nat_le (length ask.text) 4096 ≡ true = outer.1 in
    (grind (arith, name), inner.1, grind (arith, text))

-- a session has at most two digits
session_digits : (n : ℕ) → n ≤ 64 → length (decimal n) ≤ 2
session_digits n small = length-decimal-le 2 n (omega arith) (omega arith) (omega arith)

pub digits_of : (caller : Caller) (number : ℕ) → caller ≡ Session number → is_short_caller (caller_in caller) ≡ true → length (decimal number) ≤ 2
digits_of caller number is short =
    let few : nat_le number 64 ≡ true = subst (λ who. is_short_caller (caller_in who) ≡ true) is short in
    session_digits number (grind (arith, few))

-- each of the asks of a batch is short
pub short_at : (asks : List BatchAsk) (i : ℕ) (d : BatchAsk) → i < length asks → list_all is_short_ask (map ask_in asks) ≡ true
    → is_short_ask (ask_in (get_or asks i d)) ≡ true
short_at [] i d low short = absurd (omega (arith, low))
short_at (ask ∷ asks) zero d low short = (and_parts _ _ short).0
short_at (ask ∷ asks) (suc i) d low short = short_at asks i d (omega (arith, low)) (and_parts _ _ short).1

-- and so is one that stands at its place
pub short_here : (asks : List BatchAsk) (i : ℕ) (ask : BatchAsk) → i < length asks → ask ≡ get_or asks i ask
    → list_all is_short_ask (map ask_in asks) ≡ true → is_short_ask (ask_in ask) ≡ true
short_here asks i ask low is short = ap (λ a. is_short_ask (ask_in a)) is ∙ short_at asks i ask low short
