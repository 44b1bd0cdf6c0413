-- How a text is refused: its first tokens begin a sentence, and the table says why the next one, or
-- the end, can't stand there.
use Rattle.std.specs.Prelude.{◌≡◌, ◌⊎◌, ◌≤◌, ◌<◌, ℕ, suc, Bool, true, false, List, [], ◌∷◌, ◌++◌}
use Rattle.std.specs.Prelude.{length, Some, None, Err}
use Rattle.cqe_base.specs.declared.sentence.Term.{Term}
use Rattle.cqe_base.specs.declared.text.Symbol.{Symbol}
use Rattle.cqe_base.specs.declared.text.Symbol.TheVariants as symbols
use Rattle.cqe_base.specs.Formula.{Formula}
use Rattle.cqe_base.specs.Schema.{DatabaseSchema, Text, domain_named, relation_named}
use Rattle.cqe_base.specs.Tokens.{Token, tokens, end_of_tokens, symbol_of}
use Rattle.cqe_base.specs.Reading.{Refusal, Scope, TypedTerm, column_domains, term_named, is_next}
use Rattle.cqe_base.specs.Reading.{is_empty, reading, refusal_at_end, greatest_nested_quantifiers}
use Rattle.cqe_base.specs.Reading.{greatest_enclosing_constructs, unexpected, unknown_name}
use Rattle.cqe_base.specs.Reading.{wrong_domain, too_deep, wrong_columns}
use Rattle.cqe_base.specs.Grammar.{Part, unary, both, either, conditional, whole, IsSymbol, IsTerm}
use Rattle.cqe_base.specs.Grammar.{Begins, IsQuantifier}

-- what the grammar wants next
pub data Wanted : Type 0 where
  -- an operand of a connective, where so many constructs may still be opened
  operand : (room : ℕ) → (scope : Scope) → Wanted
  -- in a quantifier: its variable, the colon, its domain and the dot
  variable colon domain dot : Wanted
  -- a term of a domain, and whether it is the first behind the `(` of an atom
  term : (scope : Scope) → (domain : ℕ) → (first : Bool) → Wanted
  -- the `)` of an atom without columns
  no_term : Wanted
  -- what stands behind a column, and whether it is the last one
  behind_column : (last : Bool) → Wanted
  -- `=` or `!=`, behind a term
  sign : Wanted
  -- what stands behind an operand: where so many constructs may still be opened, whether a `<->`
  -- may follow, and whether a `(` is open
  behind_operand : (room : ℕ) → (double : Bool) → (open_ : Bool) → Wanted

-- whether a token of this symbol is looked at further where this is wanted; any other one is
-- Unexpected
abbrev pub may_stand : Wanted → Symbol → Bool
may_stand (operand room scope) symbols.Name = true
may_stand (operand room scope) symbols.Not = true
may_stand (operand room scope) symbols.True = true
may_stand (operand room scope) symbols.False = true
may_stand (operand room scope) symbols.Forall = true
may_stand (operand room scope) symbols.Exists = true
may_stand (operand room scope) symbols.Open = true
may_stand variable symbols.Name = true
may_stand colon symbols.Colon = true
may_stand domain symbols.Name = true
may_stand dot symbols.Dot = true
may_stand (term scope d first) symbols.Name = true
may_stand (term scope d first) symbols.Close = first
may_stand no_term symbols.Close = true
may_stand no_term symbols.Name = true
may_stand (behind_column last) symbols.Comma = true
may_stand (behind_column last) symbols.Close = true
may_stand sign symbols.Equal = true
may_stand sign symbols.Differs = true
-- a name that a `(` follows is a relation and no term
may_stand sign symbols.Open = true
may_stand (behind_operand room double open_) symbols.And = true
may_stand (behind_operand room double open_) symbols.Or = true
may_stand (behind_operand room double open_) symbols.Arrow = true
may_stand (behind_operand room double open_) symbols.DoubleArrow = double
may_stand (behind_operand room double open_) symbols.Close = open_
may_stand _ _ = false

-- the token opens a quantifier, or any construct that stands before an operand
abbrev pub OpensQuantifier : Token → Type 0
OpensQuantifier t = IsSymbol symbols.Forall t ⊎ IsSymbol symbols.Exists t

-- a token opens a construct that encloses what follows: `not`, a quantifier or `(`
abbrev pub OpensConstruct : Token → Type 0
OpensConstruct t = IsSymbol symbols.Not t ⊎ IsSymbol symbols.Open t ⊎ OpensQuantifier t

-- the text may not end where this is wanted
abbrev pub MustGoOn : Wanted → Type 0
MustGoOn (behind_operand room double open_) = open_ ≡ true
MustGoOn _ = Unit {0}

-- The table: where this is wanted, what stands there is refused so. `end` is the refusal where the
-- tokens end.
pub data Refuses (schema : DatabaseSchema) (end : Refusal) : Wanted → List Token → Refusal
    → Type 0 where
  -- the tokens end at a byte that begins none, or too early
  at_byte : {w : Wanted} → end.kind ≡ 1 → Refuses schema end w [] end
  at_end : {w : Wanted} → MustGoOn w → Refuses schema end w [] end
  not_allowed : {w : Wanted} {t : Token} {ts : List Token} → may_stand w (symbol_of t.text) ≡ false
      → Refuses schema end w (t ∷ ts) (unexpected t.start)
  no_relation : {room : ℕ} {scope : Scope} {t : Token} {ts : List Token} → IsSymbol symbols.Name t
      → is_next symbols.Open ts ≡ true → relation_named schema t.text ≡ None
      → Refuses schema end (operand room scope) (t ∷ ts) (unknown_name t.start)
  no_left_side : {room : ℕ} {scope : Scope} {t : Token} {ts : List Token} → IsSymbol symbols.Name t
      → is_next symbols.Open ts ≡ false → term_named schema scope t.text ≡ None
      → Refuses schema end (operand room scope) (t ∷ ts) (unknown_name t.start)
  no_such_term : {scope : Scope} {d : ℕ} {first : Bool} {t : Token} {ts : List Token}
      → IsSymbol symbols.Name t → term_named schema scope t.text ≡ None
      → Refuses schema end (term scope d first) (t ∷ ts) (unknown_name t.start)
  no_domain : {t : Token} {ts : List Token} → IsSymbol symbols.Name t
      → domain_named schema t.text ≡ None
      → Refuses schema end domain (t ∷ ts) (unknown_name t.start)
  other_domain : {scope : Scope} {d : ℕ} {first : Bool} {t : Token} {ts : List Token}
      {a : TypedTerm} → IsSymbol symbols.Name t → term_named schema scope t.text ≡ Some a
      → (a.domain ≡ d → ⊥)
      → Refuses schema end (term scope d first) (t ∷ ts) (wrong_domain t.start)
  -- the sixty-fifth enclosing construct, and the ninth nested quantifier
  no_room : {scope : Scope} {t : Token} {ts : List Token} → OpensConstruct t
      → Refuses schema end (operand 0 scope) (t ∷ ts) (too_deep t.start)
  no_room_behind : {double open_ : Bool} {t : Token} {ts : List Token} → IsSymbol symbols.Arrow t
      → Refuses schema end (behind_operand 0 double open_) (t ∷ ts) (too_deep t.start)
  no_quantifier : {room : ℕ} {scope : Scope} {t : Token} {ts : List Token} → OpensQuantifier t
      → greatest_nested_quantifiers ≤ length scope
      → Refuses schema end (operand room scope) (t ∷ ts) (too_deep t.start)
  -- a `,` behind the last column, a `)` before it, and a term where there is no column
  comma_behind_last : {t : Token} {ts : List Token} → IsSymbol symbols.Comma t
      → Refuses schema end (behind_column true) (t ∷ ts) (wrong_columns t.start)
  close_before_last : {t : Token} {ts : List Token} → IsSymbol symbols.Close t
      → Refuses schema end (behind_column false) (t ∷ ts) (wrong_columns t.start)
  close_before_first : {scope : Scope} {d : ℕ} {t : Token} {ts : List Token}
      → IsSymbol symbols.Close t
      → Refuses schema end (term scope d true) (t ∷ ts) (wrong_columns t.start)
  term_without_column : {t : Token} {ts : List Token} → IsSymbol symbols.Name t
      → Refuses schema end no_term (t ∷ ts) (wrong_columns t.start)

-- The tokens behind the token of a quantifier break off before its body, and this is wanted next.
pub data InQuantifier (schema : DatabaseSchema) : List Token → Wanted → Type 0 where
  before_variable : InQuantifier schema [] variable
  before_colon : {x : Token} → IsSymbol symbols.Name x → InQuantifier schema (x ∷ []) colon
  before_domain : {x c : Token} → IsSymbol symbols.Name x → IsSymbol symbols.Colon c
      → InQuantifier schema (x ∷ c ∷ []) domain
  before_dot : {x c n : Token} {d : ℕ} → IsSymbol symbols.Name x → IsSymbol symbols.Colon c
      → IsSymbol symbols.Name n → domain_named schema n.text ≡ Some d
      → InQuantifier schema (x ∷ c ∷ n ∷ []) dot

-- The tokens behind the `(` of an atom, or behind a `,`, break off in these columns, and this is
-- wanted next.
pub data InColumns (schema : DatabaseSchema) (scope : Scope) : (first : Bool) → List ℕ → List Token
    → Wanted → Type 0 where
  without_columns : InColumns schema scope true [] [] no_term
  before_term : {first : Bool} {d : ℕ} {ds : List ℕ}
      → InColumns schema scope first (d ∷ ds) [] (term scope d first)
  behind_term : {first : Bool} {d : ℕ} {ds : List ℕ} {t : Token} {a : Term}
      → IsTerm schema scope t a d
      → InColumns schema scope first (d ∷ ds) (t ∷ []) (behind_column (is_empty ds))
  in_next : {first : Bool} {d e : ℕ} {ds : List ℕ} {t c : Token} {a : Term} {ts : List Token}
      {w : Wanted} → IsTerm schema scope t a d → IsSymbol symbols.Comma c
      → InColumns schema scope false (e ∷ ds) ts w
      → InColumns schema scope first (d ∷ e ∷ ds) (t ∷ c ∷ ts) w

-- the tokens are such a part whatever follows them, since no quantified sentence ends it
abbrev pub IsClosedPart : DatabaseSchema → Part → ℕ → Scope → List Token → Formula → Type 0
IsClosedPart schema part room scope ts a =
    (others : List Token) → Begins schema part room scope (ts ++ others) a others

-- The tokens begin such a part and break off in it or behind an operand that ends it, and this is
-- wanted next.
-- So many constructs may still be opened within these quantifiers; `double` says whether a `<->`
-- may follow the part, `open_` whether a `(` is open.
pub data BreaksOff (schema : DatabaseSchema) : (double open_ : Bool) → Part → ℕ → Scope → List Token
    → Wanted → Type 0 where
  at_start : {double open_ : Bool} {room : ℕ} {scope : Scope}
      → BreaksOff schema double open_ unary room scope [] (operand room scope)
  in_atom : {double open_ : Bool} {room : ℕ} {scope : Scope} {t o : Token} {ts : List Token}
      {relation : ℕ} {w : Wanted} → IsSymbol symbols.Name t → IsSymbol symbols.Open o
      → relation_named schema t.text ≡ Some relation
      → InColumns schema scope true (column_domains schema relation) ts w
      → BreaksOff schema double open_ unary room scope (t ∷ o ∷ ts) w
  behind_left_side : {double open_ : Bool} {room : ℕ} {scope : Scope} {t : Token} {a : Term} {d : ℕ}
      → IsTerm schema scope t a d → BreaksOff schema double open_ unary room scope (t ∷ []) sign
  before_right_side :
      {double open_ : Bool} {room : ℕ} {scope : Scope} {t s : Token} {a : Term} {d : ℕ}
      → IsTerm schema scope t a d → IsSymbol symbols.Equal s ⊎ IsSymbol symbols.Differs s
      → BreaksOff schema double open_ unary room scope (t ∷ s ∷ []) (term scope d false)
  in_not : {double open_ : Bool} {room : ℕ} {scope : Scope} {t : Token} {ts : List Token}
      {w : Wanted} → IsSymbol symbols.Not t → BreaksOff schema double open_ unary room scope ts w
      → BreaksOff schema double open_ unary (suc room) scope (t ∷ ts) w
  in_parentheses :
      {double open_ : Bool} {room : ℕ} {scope : Scope} {t : Token} {ts : List Token} {w : Wanted}
      → IsSymbol symbols.Open t → BreaksOff schema true true whole room scope ts w
      → BreaksOff schema double open_ unary (suc room) scope (t ∷ ts) w
  in_quantifier : {double open_ : Bool} {room : ℕ} {scope : Scope} {q : Token} {ts : List Token}
      {w : Wanted} → OpensQuantifier q → length scope < greatest_nested_quantifiers
      → InQuantifier schema ts w → BreaksOff schema double open_ unary (suc room) scope (q ∷ ts) w
  in_body : {double open_ : Bool} {room : ℕ} {scope : Scope} {s : Symbol} {q x c n p : Token}
      {d : ℕ} {ts : List Token} {w : Wanted} → OpensQuantifier q
      → IsQuantifier schema scope s q x c n p d
      → BreaksOff schema true open_ whole room
      (record { variable = x.text; domain = d } ∷ scope) ts w
      → BreaksOff schema double open_ unary (suc room) scope (q ∷ x ∷ c ∷ n ∷ p ∷ ts) w
  in_first_and : {double open_ : Bool} {room : ℕ} {scope : Scope} {ts : List Token} {w : Wanted}
      → BreaksOff schema double open_ unary room scope ts w
      → BreaksOff schema double open_ both room scope ts w
  behind_and : {double open_ : Bool} {room : ℕ} {scope : Scope} {t : Token} {ts us : List Token}
      {a : Formula} {w : Wanted} → Begins schema both room scope ts a (t ∷ us)
      → IsSymbol symbols.And t
      → BreaksOff schema double open_ unary room scope us w
      → BreaksOff schema double open_ both room scope ts w
  in_first_or : {double open_ : Bool} {room : ℕ} {scope : Scope} {ts : List Token} {w : Wanted}
      → BreaksOff schema double open_ both room scope ts w
      → BreaksOff schema double open_ either room scope ts w
  behind_or : {double open_ : Bool} {room : ℕ} {scope : Scope} {t : Token} {ts us : List Token}
      {a : Formula} {w : Wanted} → Begins schema either room scope ts a (t ∷ us)
      → IsSymbol symbols.Or t
      → BreaksOff schema double open_ both room scope us w
      → BreaksOff schema double open_ either room scope ts w
  before_arrow : {double open_ : Bool} {room : ℕ} {scope : Scope} {ts : List Token} {w : Wanted}
      → BreaksOff schema double open_ either room scope ts w
      → BreaksOff schema double open_ conditional room scope ts w
  behind_arrow : {double open_ : Bool} {room : ℕ} {scope : Scope} {t : Token} {ts us : List Token}
      {a : Formula} {w : Wanted} → Begins schema either (suc room) scope ts a (t ∷ us)
      → IsSymbol symbols.Arrow t
      → BreaksOff schema double open_ conditional room scope us w
      → BreaksOff schema double open_ conditional (suc room) scope ts w
  behind_last : {double open_ : Bool} {room : ℕ} {scope : Scope} {ts : List Token} {a : Formula}
      → IsClosedPart schema either room scope ts a
      → BreaksOff schema double open_ conditional room scope ts (behind_operand room double open_)
  before_double_arrow :
      {double open_ : Bool} {room : ℕ} {scope : Scope} {ts : List Token} {w : Wanted}
      → BreaksOff schema true open_ conditional room scope ts w
      → BreaksOff schema double open_ whole room scope ts w
  behind_double_arrow :
      {double open_ : Bool} {room : ℕ} {scope : Scope} {t : Token} {ts us : List Token}
      {a : Formula} {w : Wanted} → Begins schema conditional room scope ts a (t ∷ us)
      → IsSymbol symbols.DoubleArrow t
      → BreaksOff schema false open_ conditional room scope us w
      → BreaksOff schema double open_ whole room scope ts w

-- the text is refused so: its first tokens break off in a sentence, and what stands behind them is
-- refused by the table
pub record Refused (schema : DatabaseSchema) (text : Text) (e : Refusal) : Type 0 where
  pub front : List Token
  pub back : List Token
  pub wanted : Wanted
  pub split : tokens text ≡ front ++ back
  pub breaks_off : BreaksOff schema true false whole greatest_enclosing_constructs [] front wanted
  pub refuses : Refuses schema (refusal_at_end (end_of_tokens text) (length text)) wanted back e

-- a text that doesn't read is refused by the table
abbrev pub RefusalsAreOfTheTable : Type 0
RefusalsAreOfTheTable =
    (schema : DatabaseSchema) (text : Text) (e : Refusal) → reading schema text ≡ Err e
    → Refused schema text e
