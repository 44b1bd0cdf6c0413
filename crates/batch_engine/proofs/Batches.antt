-- The stretches of a batch in memory, with one more ask or restart.
use Rattle.std.proofs.Common.{◌≡◌, Bool, true, false, if◌then◌else◌, List, [], ◌∷◌, ◌++◌, map, All, refl, sym, ap, ◌∙◌, append_assoc, append-nil}
use Rattle.std.specs.Prelude.{◌&&◌}
use Rattle.std.specs.Prelude.{Vec}
use Rattle.std.specs.List.{list_all, AllByRecursion}
use Rattle.std.specs.declared.alloc.Global.{Global}
use Rattle.std.proofs.lemmas.Bool.{and_parts}
use Rattle.std.proofs.lemmas.List.{map-append}
use Rattle.std.proofs.lemmas.List.Elements.{All-from_recursion}
use Rattle.std.proofs.lemmas.List.Folds.{list_all-append}
use Rattle.batch_engine.specs.BatchLines.{BatchItem, asked, restarted}
use Rattle.batch_engine.specs.Said.{is_short_ask, is_short_item}
use Rattle.batch_engine.specs.Batches.{ask_in, asks_in, AreShort, stretch_in, stretches_in, items_in}
use Rattle.batch_engine.specs.declared.batch.BatchAsk.{BatchAsk}

pub stretches-append : (xs ys : List (Vec BatchAsk Global)) → stretches_in (xs ++ ys) ≡ stretches_in xs ++ stretches_in ys
stretches-append [] ys = refl
stretches-append (asks ∷ xs) ys =
    ap (λ l. stretch_in asks.items ++ restarted ∷ l) (stretches-append xs ys)
    ∙ sym (append_assoc (stretch_in asks.items) (restarted ∷ stretches_in xs) (stretches_in ys))

-- one more ask
pub ask_more : (ended : List (Vec BatchAsk Global)) (last new : List BatchAsk) (ask : BatchAsk) → new ≡ last ++ ask ∷ []
    → items_in ended new ≡ items_in ended last ++ asked (ask_in ask) ∷ []
ask_more ended last new ask is =
    ap (λ l. items_in ended l) is
    ∙ ap (λ l. stretches_in ended ++ map asked l) (map-append ask_in last (ask ∷ []))
    ∙ ap (λ l. stretches_in ended ++ l) (map-append asked (asks_in last) (ask_in ask ∷ []))
    ∙ sym (append_assoc (stretches_in ended) (stretch_in last) (asked (ask_in ask) ∷ []))

-- one more restart
pub restart_more : (ended new : List (Vec BatchAsk Global)) (last : Vec BatchAsk Global) → new ≡ ended ++ last ∷ []
    → items_in new [] ≡ items_in ended last.items ++ restarted ∷ []
restart_more ended new last is =
    append-nil (stretches_in new) ∙ ap stretches_in is ∙ stretches-append ended (last ∷ [])
    ∙ sym (append_assoc (stretches_in ended) (stretch_in last.items) (restarted ∷ []))

-- ---- short asks

pub short_more : (items new : List BatchItem) (item : BatchItem) → new ≡ items ++ item ∷ [] → list_all is_short_item items ≡ true
    → is_short_item item ≡ true → list_all is_short_item new ≡ true
short_more items new item is all one =
    ap (list_all is_short_item) is ∙ list_all-append is_short_item items (item ∷ []) ∙ (λ i. all i && (one i && true))

-- one more ask, where there was memory for it
pub short_pushed : (ended : List (Vec BatchAsk Global)) (last new : List BatchAsk) (ask : BatchAsk) (b : Bool)
    → new ≡ (if b then last ++ ask ∷ [] else last) → list_all is_short_item (items_in ended last) ≡ true → is_short_ask (ask_in ask) ≡ true
    → list_all is_short_item (items_in ended new) ≡ true
short_pushed ended last new ask true is all one =
    short_more (items_in ended last) (items_in ended new) (asked (ask_in ask)) (ask_more ended last new ask is) all one
short_pushed ended last new ask false is all one = ap (λ l. list_all is_short_item (items_in ended l)) is ∙ all

short_items : (asks : List BatchAsk) → list_all is_short_item (stretch_in asks) ≡ list_all is_short_ask (asks_in asks)
short_items [] = refl
short_items (ask ∷ asks) = ap (λ b. is_short_ask (ask_in ask) && b) (short_items asks)

-- each stretch is short, and the last one too
short_each : (ended : List (Vec BatchAsk Global)) → list_all is_short_item (stretches_in ended) ≡ true → AllByRecursion (λ asks. AreShort asks.items) ended
short_each [] all = tt
short_each (asks ∷ ended) all =
    let parts = and_parts (list_all is_short_item (stretch_in asks.items)) (list_all is_short_item (stretches_in ended))
    (sym (list_all-append is_short_item (stretch_in asks.items) (restarted ∷ stretches_in ended)) ∙ all) in
    (sym (short_items asks.items) ∙ parts.0, short_each ended parts.1)

pub short_ended : (ended : List (Vec BatchAsk Global)) (last : List BatchAsk) → list_all is_short_item (items_in ended last) ≡ true
    → All (λ asks. AreShort asks.items) ended
short_ended ended last all =
    let parts = and_parts (list_all is_short_item (stretches_in ended)) (list_all is_short_item (stretch_in last))
    (sym (list_all-append is_short_item (stretches_in ended) (stretch_in last)) ∙ all) in
    All-from_recursion (λ asks. AreShort asks.items) ended (short_each ended parts.0)

pub short_last : (ended : List (Vec BatchAsk Global)) (last : List BatchAsk) → list_all is_short_item (items_in ended last) ≡ true → AreShort last
short_last ended last all =
    let parts = and_parts (list_all is_short_item (stretches_in ended)) (list_all is_short_item (stretch_in last))
    (sym (list_all-append is_short_item (stretches_in ended) (stretch_in last)) ∙ all) in
    sym (short_items last) ∙ parts.1
