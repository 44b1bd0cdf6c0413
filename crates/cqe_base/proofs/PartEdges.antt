-- A part that was read may stand before all tokens, or ends with the body of a quantifier, behind which the table says what may stand.
use Rattle.std.proofs.Common.{◌≡◌, ℕ, suc, ◌⊎◌, inl, inr, Bool, true, false, List, [], ◌∷◌, ◌++◌, refl, sym, ap, subst, append_assoc}
use Rattle.cqe_base.specs.declared.text.Symbol.{Symbol}
use Rattle.cqe_base.specs.declared.text.Symbol.TheVariants as symbols
use Rattle.cqe_base.specs.Formula.{Formula, conjunction, disjunction, negation}
use Rattle.cqe_base.specs.Schema.{DatabaseSchema}
use Rattle.cqe_base.specs.Tokens.{Token}
use Rattle.cqe_base.specs.Reading.{Scope}
use Rattle.cqe_base.specs.Grammar
use Rattle.cqe_base.specs.Grammar.{Part, unary, both, either, conditional, whole, IsSymbol, IsQuantifier, MayEndQuantified, Begins, is_true, is_false, is_atom}
use Rattle.cqe_base.specs.Grammar.{is_equal, is_differs, is_not, is_forall, is_exists, one_and, more_and, one_or, more_or, no_arrow, one_arrow, no_double_arrow}
use Rattle.cqe_base.specs.Grammar.{one_double_arrow}
use Rattle.cqe_base.specs.Refusals.{behind_operand, OpensQuantifier, IsClosedPart, BreaksOff, in_not, in_body, in_first_and, behind_and, in_first_or, behind_or}
use Rattle.cqe_base.specs.Refusals.{before_arrow, behind_arrow, behind_last, before_double_arrow, behind_double_arrow}
use Rattle.cqe_base.proofs.Cuts.{columns-cut, parentheses-cut, joined, begins-cut, begins-before}

module _ (schema : DatabaseSchema) where
  -- the part may stand before all tokens
  pub record Closed (part : Part) (room : ℕ) (scope : Scope) (ts : List Token) (a : Formula) (rest : List Token) : Type 0 where
    pub front : List Token
    pub split : ts ≡ front ++ rest
    pub closed : IsClosedPart schema part room scope front a

  -- it breaks off behind its last operand
  pub record Behind (part : Part) (room : ℕ) (scope : Scope) (ts rest : List Token) : Type 0 where
    pub front : List Token
    pub inner : ℕ
    pub more : Bool → Bool
    pub split : ts ≡ front ++ rest
    pub breaks_off : (double open_ : Bool) → BreaksOff schema double open_ part room scope front (behind_operand inner (more double) open_)

  abbrev Edge : Part → ℕ → Scope → List Token → Formula → List Token → Type 0
  Edge conditional room scope ts a rest = MayEndQuantified rest → Behind conditional room scope ts rest
  Edge whole room scope ts a rest = MayEndQuantified rest → Behind whole room scope ts rest
  Edge part room scope ts a rest = Closed part room scope ts a rest ⊎ (MayEndQuantified rest × Behind part room scope ts rest)

  module _ {room : ℕ} {scope : Scope} {rest : List Token} where
    -- the same part in a further one
    not-edge : {t : Token} {ts : List Token} {a : Formula} → IsSymbol symbols.Not t → Edge unary room scope ts a rest
        → Edge unary (suc room) scope (t ∷ ts) (negation a) rest
    not-edge {t} h (inl f) =
        inl (record { front = t ∷ f.front; split = ap (λ (us : List Token). t ∷ us) f.split; closed = λ others. is_not h (f.closed others) })
    not-edge {t} h (inr b) =
        inr (
          b.0,
          record {
            front = t ∷ b.1.front;
            inner = b.1.inner;
            more = b.1.more;
            split = ap (λ (us : List Token). t ∷ us) b.1.split;
            breaks_off =
                λ double open_. in_not h (b.1.breaks_off double open_);
          },
        )

    module _ {ts : List Token} {a : Formula} where
      and-edge : Edge unary room scope ts a rest → Edge both room scope ts a rest
      and-edge (inl f) = inl (record { front = f.front; split = f.split; closed = λ others. one_and (f.closed others) })
      and-edge (inr b) =
          inr (
            b.0,
            record {
              front = b.1.front;
              inner = b.1.inner;
              more = b.1.more;
              split = b.1.split;
              breaks_off =
                  λ double open_. in_first_and (b.1.breaks_off double open_);
            },
          )

      or-edge : Edge both room scope ts a rest → Edge either room scope ts a rest
      or-edge (inl f) = inl (record { front = f.front; split = f.split; closed = λ others. one_or (f.closed others) })
      or-edge (inr b) =
          inr (
            b.0,
            record {
              front = b.1.front;
              inner = b.1.inner;
              more = b.1.more;
              split = b.1.split;
              breaks_off =
                  λ double open_. in_first_or (b.1.breaks_off double open_);
            },
          )

      abbrev pub side-edge : Edge either room scope ts a rest → Behind conditional room scope ts rest
      side-edge (inl f) = record { front = f.front; inner = room; more = λ double. double; split = f.split; breaks_off = λ double open_. behind_last f.closed }
      side-edge (inr b) =
          record {
            front = b.1.front;
            inner = b.1.inner;
            more = b.1.more;
            split = b.1.split;
            breaks_off =
                λ double open_. before_arrow (b.1.breaks_off double open_);
          }

    -- a further operand
    module _ {t : Token} {ts us : List Token} {a b : Formula} where
      more_and-edge : Begins schema both room scope ts a (t ∷ us) → IsSymbol symbols.And t → Edge unary room scope us b rest
          → Edge both room scope ts (conjunction a b) rest
      more_and-edge left h (inl f) =
          let c = begins-cut schema left in
          inl (record {
            front = c.mid ++ (t ∷ f.front);
            split = joined schema ts c.mid us f.front rest t c.split f.split;
            closed =
                λ others. subst (λ ts. Begins schema both room scope ts (conjunction a b) others) (sym (append_assoc c.mid (t ∷ f.front) others))
                (more_and (c.again (t ∷ (f.front ++ others)) (λ e. e)) h (f.closed others));
          })
      more_and-edge left h (inr x) =
          let l = begins-before schema x.1.front rest left x.1.split in
          inr (
            x.0,
            record {
              front =
                  l.0;
              inner = x.1.inner;
              more = x.1.more;
              split = l.1;
              breaks_off = λ double open_. behind_and l.2 h (x.1.breaks_off double open_);
            },
          )

      more_or-edge : Begins schema either room scope ts a (t ∷ us) → IsSymbol symbols.Or t → Edge both room scope us b rest
          → Edge either room scope ts (disjunction a b) rest
      more_or-edge left h (inl f) =
          let c = begins-cut schema left in
          inl (record {
            front = c.mid ++ (t ∷ f.front);
            split = joined schema ts c.mid us f.front rest t c.split f.split;
            closed =
                λ others. subst (λ ts. Begins schema either room scope ts (disjunction a b) others) (sym (append_assoc c.mid (t ∷ f.front) others))
                (more_or (c.again (t ∷ (f.front ++ others)) (λ e. e)) h (f.closed others));
          })
      more_or-edge left h (inr x) =
          let l = begins-before schema x.1.front rest left x.1.split in
          inr (
            x.0,
            record {
              front =
                  l.0;
              inner = x.1.inner;
              more = x.1.more;
              split = l.1;
              breaks_off = λ double open_. behind_or l.2 h (x.1.breaks_off double open_);
            },
          )

    module _ {t : Token} {ts us : List Token} {a : Formula} where
      abbrev pub arrow-edge : Begins schema either (suc room) scope ts a (t ∷ us) → IsSymbol symbols.Arrow t → Behind conditional room scope us rest
          → Behind conditional (suc room) scope ts rest
      arrow-edge left h x = let l = begins-before schema x.front rest left x.split in
          record { front = l.0; inner = x.inner; more = x.more; split = l.1; breaks_off = λ double open_. behind_arrow l.2 h (x.breaks_off double open_) }

      double_arrow-edge : Begins schema conditional room scope ts a (t ∷ us) → IsSymbol symbols.DoubleArrow t → Behind conditional room scope us rest
          → Behind whole room scope ts rest
      double_arrow-edge left h x = let l = begins-before schema x.front rest left x.split in
          record {
            front = l.0;
            inner = x.inner;
            more = λ double. x.more false;
            split = l.1;
            breaks_off =
                λ double open_. behind_double_arrow l.2 h (x.breaks_off false open_);
          }

    sentence-edge : {ts : List Token} → Behind conditional room scope ts rest → Behind whole room scope ts rest
    sentence-edge x =
        record {
          front = x.front;
          inner = x.inner;
          more = λ double. x.more true;
          split = x.split;
          breaks_off =
              λ double open_. before_double_arrow (x.breaks_off true open_);
        }

    body-edge : {s : Symbol} {q x c n p : Token} {d : ℕ} {ts : List Token} → OpensQuantifier q → IsQuantifier schema scope s q x c n p d
        → Behind whole room (record { variable = x.text; domain = d } ∷ scope) ts rest → Behind unary (suc room) scope (q ∷ x ∷ c ∷ n ∷ p ∷ ts) rest
    body-edge {q = q} {x = x} {c = c} {n = n} {p = p} opens h b =
        record {
          front = q ∷ x ∷ c ∷ n ∷ p ∷ b.front;
          inner = b.inner;
          more = λ double. b.more true;
          split =
              ap (λ (us : List Token). q ∷ x ∷ c ∷ n ∷ p ∷ us) b.split;
          breaks_off = λ double open_. in_body opens h (b.breaks_off true open_);
        }

  pub edge : {part : Part} {room : ℕ} {scope : Scope} {ts rest : List Token} {a : Formula} → Begins schema part room scope ts a rest
      → Edge part room scope ts a rest
  edge (is_true {t = t} h) = inl (record { front = t ∷ []; split = refl; closed = λ others. is_true h })
  edge (is_false {t = t} h) = inl (record { front = t ∷ []; split = refl; closed = λ others. is_false h })
  edge (is_atom {t = t} {open_ = o} h opens r c) = let m = columns-cut schema c in
      inl (record { front = t ∷ o ∷ m.0; split = ap (λ (us : List Token). t ∷ o ∷ us) m.1; closed = λ others. is_atom h opens r (m.2 others) })
  edge (is_equal {t = t} {sign = s} {u = u} h is k) = inl (record { front = t ∷ s ∷ u ∷ []; split = refl; closed = λ others. is_equal h is k })
  edge (is_differs {t = t} {sign = s} {u = u} h is k) = inl (record { front = t ∷ s ∷ u ∷ []; split = refl; closed = λ others. is_differs h is k })
  edge (is_not h a) = not-edge h (edge a)
  edge (Grammar.in_parentheses {open_ =
      o} {rest = rest} h a c) = let p = parentheses-cut schema o rest h (begins-cut schema a) c in inl (record { front = p.0; split = p.2; closed = p.3 })
  edge (is_forall q a e) = inr (e, body-edge (inl q.opens) q (edge a e))
  edge (is_exists q a e) = inr (e, body-edge (inr q.opens) q (edge a e))
  edge (one_and a) = and-edge (edge a)
  edge (more_and a h b) = more_and-edge a h (edge b)
  edge (one_or a) = or-edge (edge a)
  edge (more_or a h b) = more_or-edge a h (edge b)
  edge (no_arrow a) = λ may. side-edge (edge a)
  edge (one_arrow a h b) = λ may. arrow-edge a h (edge b may)
  edge (no_double_arrow a) = λ may. sentence-edge (edge a may)
  edge (one_double_arrow a h b) = λ may. double_arrow-edge a h (edge b may)
