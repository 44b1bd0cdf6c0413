-- A part of a sentence without what follows it.
use Rattle.std.proofs.Common.{◌≡◌, ℕ, suc, ◌<◌, List, [], ◌∷◌, ◌++◌, length, length-append, refl, sym, ap, subst, ◌∙◌, arith, append_assoc}
use Rattle.cqe_base.specs.declared.sentence.Term.{Term}
use Rattle.cqe_base.specs.declared.text.Symbol.TheVariants.{Open, Close}
use Rattle.cqe_base.specs.Formula.{Formula}
use Rattle.cqe_base.specs.Schema.{DatabaseSchema}
use Rattle.cqe_base.specs.Tokens.{Token}
use Rattle.cqe_base.specs.Reading.{Scope}
use Rattle.cqe_base.specs.Grammar.{Part, unary, whole, IsSymbol, Columns, no_column, last_column, next_column, MayEndQuantified, Begins, is_true, is_false}
use Rattle.cqe_base.specs.Grammar.{is_atom, is_equal, is_differs, is_not, in_parentheses, is_forall, is_exists, one_and, more_and, one_or, more_or, no_arrow}
use Rattle.cqe_base.specs.Grammar.{one_arrow, no_double_arrow, one_double_arrow}

module _ (schema : DatabaseSchema) where
  pub columns-cut : {scope : Scope} {ds : List ℕ} {ts rest : List Token} {terms : List Term} → Columns schema scope ds ts terms rest → (mid : List Token)
      × (ts ≡ mid ++ rest) × ((others : List Token) → Columns schema scope ds (mid ++ others) terms others)
  columns-cut (no_column {close = close} c) = (close ∷ [], refl, λ others. no_column c)
  columns-cut (last_column {t = t} {close = close} h c) = (t ∷ close ∷ [], refl, λ others. last_column h c)
  columns-cut (next_column {t = t} {comma = comma} h c more) = let m = columns-cut more in
      (t ∷ comma ∷ m.0, ap (λ (us : List Token). t ∷ comma ∷ us) m.1, λ others. next_column h c (m.2 others))

  -- the tokens of a part, which may stand before other ones
  pub record Cut (part : Part) (room : ℕ) (scope : Scope) (ts : List Token) (a : Formula) (rest : List Token) : Type 0 where
    pub mid : List Token
    pub some : 0 < length mid
    pub split : ts ≡ mid ++ rest
    pub again : (others : List Token) → (MayEndQuantified rest → MayEndQuantified others) → Begins schema part room scope (mid ++ others) a others

  pub joined : (ts left us right rest : List Token) (t : Token) → ts ≡ left ++ (t ∷ us) → us ≡ right ++ rest → ts ≡ (left ++ (t ∷ right)) ++ rest
  joined ts left us right rest t first second = first ∙ (ap (λ (us : List Token). left ++ (t ∷ us)) second ∙ sym (append_assoc left (t ∷ right) rest))

  -- two parts with a connective between them
  two : {part left_part right_part : Part} {room left_room right_room : ℕ} {scope : Scope} {t : Token} {ts us rest : List Token} {a b c : Formula}
      → Cut left_part left_room scope ts a (t ∷ us) → Cut right_part right_room scope us b rest
      → ((ts us rest : List Token) → Begins schema left_part left_room scope ts a (t ∷ us) → Begins schema right_part right_room scope us b rest
      → Begins schema part room scope ts c rest) → Cut part room scope ts c rest
  two {part} {room = room} {scope = scope} {t = t} {ts = ts} {us = us} {rest = rest} {c = c} left right build = record {
    mid = left.mid ++ (t ∷ right.mid);
    some = omega (arith, left.some, length-append left.mid (t ∷ right.mid));
    split = joined ts left.mid us right.mid rest t left.split right.split;
    again = λ others may.
        subst (λ ts. Begins schema part room scope ts c others) (sym (append_assoc left.mid (t ∷ right.mid) others))
        (build (left.mid ++ (t ∷ (right.mid ++ others))) (right.mid ++ others) others (left.again (t ∷ (right.mid ++ others)) (λ e. e))
        (right.again others may));
  }

  -- a sentence in parentheses may stand before all tokens
  pub parentheses-cut : {room : ℕ} {scope : Scope} {close : Token} {ts : List Token} {a : Formula} (open_ : Token) (rest : List Token) → IsSymbol Open open_
      → Cut whole room scope ts a (close ∷ rest) → IsSymbol Close close
      → (mid : List Token) × (0 < length mid) × (open_ ∷ ts ≡ mid ++ rest)
      × ((others : List Token) → Begins schema unary (suc room) scope (mid ++ others) a others)
  parentheses-cut {room} {scope} {close} {ts} {a} open_ rest o i c = (
    open_ ∷ (i.mid ++ (close ∷ [])),
    omega arith,
    ap (λ (us : List Token). open_ ∷ us) (i.split ∙ sym (append_assoc i.mid (close ∷ []) rest)),
    λ others. subst (λ us. Begins schema unary (suc room) scope (open_ ∷ us) a others) (sym (append_assoc i.mid (close ∷ []) others))
        (in_parentheses o (i.again (close ∷ others) (λ e. e)) c),
  )

  pub begins-cut : {part : Part} {room : ℕ} {scope : Scope} {ts rest : List Token} {a : Formula} → Begins schema part room scope ts a rest
      → Cut part room scope ts a rest
  begins-cut (is_true {t = t} h) = record { mid = t ∷ []; some = omega arith; split = refl; again = λ others may. is_true h }
  begins-cut (is_false {t = t} h) = record { mid = t ∷ []; some = omega arith; split = refl; again = λ others may. is_false h }
  begins-cut (is_atom {t = t} {open_ = open_} h o r c) = let m = columns-cut c in
      record {
        mid = t ∷ open_ ∷ m.0;
        some = omega arith;
        split = ap (λ (us : List Token). t ∷ open_ ∷ us) m.1;
        again =
            λ others may. is_atom h o r (m.2 others);
      }
  begins-cut (is_equal {t =
      t} {sign = sign} {u = u} h s k) = record { mid = t ∷ sign ∷ u ∷ []; some = omega arith; split = refl; again = λ others may. is_equal h s k }
  begins-cut (is_differs {t =
      t} {sign = sign} {u = u} h s k) = record { mid = t ∷ sign ∷ u ∷ []; some = omega arith; split = refl; again = λ others may. is_differs h s k }
  begins-cut (is_not {t = t} h a) = let i = begins-cut a in
      record { mid = t ∷ i.mid; some = omega arith; split = ap (λ (us : List Token). t ∷ us) i.split; again = λ others may. is_not h (i.again others may) }
  begins-cut (in_parentheses {open_ = open_} {rest = rest} o inner c) =
      let p = parentheses-cut open_ rest o (begins-cut inner) c in
      record { mid = p.0; some = p.1; split = p.2; again = λ others may. p.3 others }
  begins-cut (is_forall {q = q} {x = x} {colon = colon} {d = d} {dot = dot} h a e) = let i = begins-cut a in
      record {
        mid = q ∷ x ∷ colon ∷ d ∷ dot ∷ i.mid;
        some = omega arith;
        split = ap (λ (us : List Token). q ∷ x ∷ colon ∷ d ∷ dot ∷ us) i.split;
        again =
            λ others may. is_forall h (i.again others may) (may e);
      }
  begins-cut (is_exists {q = q} {x = x} {colon = colon} {d = d} {dot = dot} h a e) = let i = begins-cut a in
      record {
        mid = q ∷ x ∷ colon ∷ d ∷ dot ∷ i.mid;
        some = omega arith;
        split = ap (λ (us : List Token). q ∷ x ∷ colon ∷ d ∷ dot ∷ us) i.split;
        again =
            λ others may. is_exists h (i.again others may) (may e);
      }
  begins-cut (one_and a) = let i = begins-cut a in record { mid = i.mid; some = i.some; split = i.split; again = λ others may. one_and (i.again others may) }
  begins-cut (more_and a h b) = two (begins-cut a) (begins-cut b) (λ ts us rest a b. more_and a h b)
  begins-cut (one_or a) = let i = begins-cut a in record { mid = i.mid; some = i.some; split = i.split; again = λ others may. one_or (i.again others may) }
  begins-cut (more_or a h b) = two (begins-cut a) (begins-cut b) (λ ts us rest a b. more_or a h b)
  begins-cut (no_arrow a) = let i = begins-cut a in record { mid = i.mid; some = i.some; split = i.split; again = λ others may. no_arrow (i.again others may) }
  begins-cut (one_arrow a h b) = two (begins-cut a) (begins-cut b) (λ ts us rest a b. one_arrow a h b)
  begins-cut (no_double_arrow a) =
      let i = begins-cut a in record { mid = i.mid; some = i.some; split = i.split; again = λ others may. no_double_arrow (i.again others may) }
  begins-cut (one_double_arrow a h b) = two (begins-cut a) (begins-cut b) (λ ts us rest a b. one_double_arrow a h b)

  module _ {part : Part} {room : ℕ} {scope : Scope} {ts : List Token} {a : Formula} where
    -- each part takes a token
    pub begins-shorter : {rest : List Token} → Begins schema part room scope ts a rest → length rest < length ts
    begins-shorter {rest} begins = let c = begins-cut begins in omega (arith, ap length c.split, length-append c.mid rest, c.some)

    -- a part and a token behind it, before fewer tokens
    pub begins-before : {t : Token} {us : List Token} (front back : List Token) → Begins schema part room scope ts a (t ∷ us) → us ≡ front ++ back
        → (all : List Token) × (ts ≡ all ++ back) × Begins schema part room scope all a (t ∷ front)
    begins-before {t} {us} front back begins split =
        let c = begins-cut begins in (c.mid ++ (t ∷ front), joined ts c.mid us front back t c.split split, c.again (t ∷ front) (λ e. e))
