-- A quantified sentence that doesn't read is refused by the table where its body is.
use Rattle.std.proofs.Common.{◌≡◌, ℕ, zero, suc, ◌<◌, ◌≤◌, inr, Bool, true, false, List, [], ◌∷◌, ◌++◌, length, Some, Result, Ok, Err, refl, ap, subst, ◌∙◌}
use Rattle.std.proofs.Common.{arith}
use Rattle.std.specs.Prelude.{nat_lt}
use Rattle.std.proofs.lemmas.Bool.Decides.{nat_tests}
use Rattle.cqe_base.specs.declared.text.Symbol.{Symbol}
use Rattle.cqe_base.specs.declared.text.Symbol.TheVariants as symbols
use Rattle.cqe_base.specs.Formula.{Formula}
use Rattle.cqe_base.specs.Schema.{DatabaseSchema, domain_named}
use Rattle.cqe_base.specs.Tokens.{Token}
use Rattle.cqe_base.specs.Reading
use Rattle.cqe_base.specs.Reading.{◌>>=◌, Refusal, Scope, is_symbol, unexpected, too_deep}
use Rattle.cqe_base.specs.Grammar.{unary, IsSymbol, IsQuantifier}
use Rattle.cqe_base.specs.Refusals.{Wanted, operand, variable, colon, domain, dot, behind_operand, OpensQuantifier, OpensConstruct, Refuses, no_room}
use Rattle.cqe_base.specs.Refusals.{no_quantifier, InQuantifier, before_variable, before_colon, before_domain, before_dot, in_quantifier, in_body}
use Rattle.cqe_base.proofs.GrammarSound.{name-sound, pass-sound, domain-sound}
use Rattle.cqe_base.proofs.RefusedTokens.{by_step, by_test, never_ok, variable-forbids, colon-forbids, dot-forbids, pass-refused, name-refused, domain-refused}
use Rattle.cqe_base.proofs.RefusedAtoms.{Stopped, at_first}
use Rattle.cqe_base.proofs.SentenceEnds.{EndedSentence, sentence_reader, sentence-ended, behind-refused}
use Rattle.cqe_base.proofs.RefusedConnectives.{StopsAt, StopsInside, sentence-stopped}

module _ (schema : DatabaseSchema) (end : Refusal) where
  ends_quantified-refused : (room : ℕ) (scope : Scope) (ts rest : List Token) (open_ : Bool) (e : Refusal) (s : EndedSentence schema end room scope ts rest)
      → Reading.ends_quantified schema end rest ≡ Err e → Refuses schema end (behind_operand s.inner s.more open_) rest e
  unfolding Reading.ends_quantified
  ends_quantified-refused room scope ts [] open_ e s h = never_ok [] e h
  ends_quantified-refused room scope ts (t ∷ us) open_ e s h =
      by_test (Refuses schema end (behind_operand s.inner s.more open_) (t ∷ us) e) (is_symbol symbols.Close t) (Ok (t ∷ us)) (Err (unexpected t.start)) e
      (λ k h. never_ok (t ∷ us) e h) (λ k h. behind-refused schema end room scope ts us t open_ e s (λ open_. k) (cc)) h

  abbrev behind_body : (ℕ → Formula → Formula) → ℕ → Formula × List Token → Result (Formula × List Token) Refusal
  behind_body quantifier d y = Reading.ends_quantified schema end y.1 >>= λ rest. Ok (quantifier d y.0, rest)

  module _ (double open_ : Bool) (room : ℕ) (scope : Scope) (q : Token) (opens : OpensQuantifier q) where
    abbrev StoppedAtQuantifier : List Token → Refusal → Type 0
    StoppedAtQuantifier ts e = Stopped schema end double open_ unary (suc room) scope (q ∷ ts) e

    -- before the body
    in_head : (front back ts : List Token) (w : Wanted) (e : Refusal) → length scope < 8 → ts ≡ front ++ back → InQuantifier schema front w
        → Refuses schema end w back e → StoppedAtQuantifier ts e
    in_head front back ts w e few split head refuses =
        record {
          front = q ∷ front;
          back = back;
          wanted = w;
          split = ap (λ (us : List Token). q ∷ us) split;
          breaks_off =
              in_quantifier opens few head;
          refuses = refuses;
        }

    module _ (here : StopsAt schema end room) (s : Symbol) (is : IsSymbol s q) (x c n p : Token) (d : ℕ) (few : length scope < 8)
        (is_x : IsSymbol symbols.Name x) (is_c : IsSymbol symbols.Colon c) (is_n : IsSymbol symbols.Name n)
        (is_d : domain_named schema n.text ≡ Some d) (is_p : IsSymbol symbols.Dot p) where
      heads : IsQuantifier schema scope s q x c n p d
      heads = record { opens = is; variable = is_x; colon = is_c; is_name = is_n; stands_for = is_d; dot = is_p; not_too_deep = few }

      -- in the body, or behind it
      body-stopped : (quantifier : ℕ → Formula → Formula) (ts body : List Token) (e : Refusal) → ts ≡ x ∷ c ∷ n ∷ p ∷ body
          → (sentence_reader schema end room (record { variable = x.text; domain = d } ∷ scope) body >>= behind_body quantifier d) ≡ Err e
          → StoppedAtQuantifier ts e
      body-stopped quantifier ts body e split h =
          by_step (StoppedAtQuantifier ts e) (sentence_reader schema end room (record { variable = x.text; domain = d } ∷ scope) body) _ e
          (λ h. let b = sentence-stopped schema end room here true open_ (record { variable = x.text; domain = d } ∷ scope) body e h in
          record {
            front = q ∷ x ∷ c ∷ n ∷ p ∷ b.front;
            back = b.back;
            wanted = b.wanted;
            split =
                ap (λ (us : List Token). q ∷ us) (split ∙ ap (λ (us : List Token). x ∷ c ∷ n ∷ p ∷ us) b.split);
            breaks_off =
                in_body opens heads b.breaks_off;
            refuses = b.refuses;
          })
          (λ y read h. let b = sentence-ended schema end room (record { variable = x.text; domain = d } ∷ scope) body y.1 y.0 read in
          by_step (StoppedAtQuantifier ts e) (Reading.ends_quantified schema end y.1) _ e
          (λ h. record {
            front = q ∷ x ∷ c ∷ n ∷ p ∷ b.front;
            back = y.1;
            wanted = behind_operand b.inner b.more open_;
            split =
                ap (λ (us : List Token). q ∷ us) (split ∙ ap (λ (us : List Token). x ∷ c ∷ n ∷ p ∷ us) b.split);
            breaks_off =
                in_body opens heads (b.breaks_off true open_);
            refuses =
                ends_quantified-refused room (record { variable = x.text; domain = d } ∷ scope) body y.1 open_ e b h;
          })
          (λ rest read h. never_ok (quantifier d y.0, rest) e h) h) h

    quantifier-stopped : StopsAt schema end room → (s : Symbol) → IsSymbol s q → (quantifier : ℕ → Formula → Formula) (ts : List Token) (e : Refusal)
        → length scope < 8 → Reading.quantified schema end quantifier (Reading.inside schema end (suc room)) scope q ts ≡ Err e → StoppedAtQuantifier ts e
    unfolding Reading.quantified Reading.inside
    quantifier-stopped here s is quantifier ts e few h =
        let fits : nat_lt (length scope) 8 ≡ true = grind (arith, nat_tests) in
        by_step (StoppedAtQuantifier ts e) (Reading.name schema end ts) _ e
        (λ h. in_head [] ts ts variable e few refl before_variable (name-refused schema end variable variable-forbids tt ts e h))
        (λ x read h. let is_x = name-sound schema end ts x.1 x.0 read in
        by_step (StoppedAtQuantifier ts e) (Reading.pass schema end symbols.Colon x.1) _ e
        (λ h. in_head (x.0 ∷ []) x.1 ts colon e few is_x.0 (before_colon is_x.1) (pass-refused schema end colon symbols.Colon colon-forbids tt x.1 e h))
        (λ behind_colon read h. let is_c = pass-sound schema end symbols.Colon x.1 behind_colon read in
        let split_c : ts ≡ x.0 ∷ is_c.0 ∷ behind_colon = is_x.0 ∙ ap (λ (us : List Token). x.0 ∷ us) is_c.1 in
        by_step (StoppedAtQuantifier ts e) (Reading.domain schema end behind_colon) _ e
        (λ h. in_head (x.0 ∷ is_c.0 ∷ []) behind_colon ts domain e few split_c (before_domain is_x.1 is_c.2) (domain-refused schema end behind_colon e h))
        (λ d read h. let is_d = domain-sound schema end behind_colon d.1 d.0 read in
        let split_d : ts ≡ x.0 ∷ is_c.0 ∷ is_d.0 ∷ d.1 = split_c ∙ ap (λ (us : List Token). x.0 ∷ is_c.0 ∷ us) is_d.1 in
        by_step (StoppedAtQuantifier ts e) (Reading.pass schema end symbols.Dot d.1) _ e
        (λ h. in_head (x.0 ∷ is_c.0 ∷ is_d.0 ∷ []) d.1 ts dot e few split_d (before_dot is_x.1 is_c.2 is_d.2 is_d.3)
        (pass-refused schema end dot symbols.Dot dot-forbids tt d.1 e h))
        (λ body read h. let is_p = pass-sound schema end symbols.Dot d.1 body read in
        body-stopped here s is x.0 is_c.0 is_d.0 is_p.0 d.0 few is_x.1 is_c.2 is_d.2 is_d.3 is_p.2 quantifier ts body e (split_d
        ∙ ap (λ (us : List Token). x.0 ∷ is_c.0 ∷ is_d.0 ∷ us) is_p.1) h) h) h) h) (rw fits at h)

  pub no_room-stopped : (double open_ : Bool) (scope : Scope) (t : Token) (ts : List Token) (e : Refusal) → OpensConstruct t → too_deep t.start ≡ e
      → Stopped schema end double open_ unary 0 scope (t ∷ ts) e
  no_room-stopped double open_ scope t ts e opens same =
      at_first schema end double open_ 0 scope (t ∷ ts) e (subst (λ e. Refuses schema end (operand 0 scope) (t ∷ ts) e) same (no_room opens))

  pub quantified-stopped : (room : ℕ) → StopsInside schema end room → (double open_ : Bool) (scope : Scope) (s : Symbol) (q : Token) → OpensQuantifier q
      → IsSymbol s q → (quantifier : ℕ → Formula → Formula) (ts : List Token) (e : Refusal)
      → Reading.quantified schema end quantifier (Reading.inside schema end room) scope q ts ≡ Err e
      → Stopped schema end double open_ unary room scope (q ∷ ts) e
  unfolding Reading.quantified Reading.inside
  quantified-stopped room below double open_ scope s q opens is quantifier ts e h = at (nat_lt (length scope) 8) refl
    where
      in_room : (room : ℕ) → StopsInside schema end room → length scope < 8 → nat_lt (length scope) 8 ≡ true
          → Reading.quantified schema end quantifier (Reading.inside schema end room) scope q ts ≡ Err e
          → Stopped schema end double open_ unary room scope (q ∷ ts) e
      in_room zero below few fits h =
          let refused = rw fits at h in
          let same : too_deep q.start ≡ e = cc in
          no_room-stopped double open_ scope q ts e (inr (inr opens)) same
      in_room (suc room) below few fits h = quantifier-stopped double open_ room scope q opens below s is quantifier ts e few h

      at : (b : Bool) → nat_lt (length scope) 8 ≡ b → Stopped schema end double open_ unary room scope (q ∷ ts) e
      at true fits = let few : length scope < 8 = grind (arith, nat_tests) in in_room room below few fits h
      at false full =
          let many : 8 ≤ length scope = grind (arith, nat_tests) in
          let refused = rw full at h in
          let same : too_deep q.start ≡ e = cc in
          at_first schema end double open_ room scope (q ∷ ts) e
          (subst (λ e. Refuses schema end (operand room scope) (q ∷ ts) e) same (no_quantifier opens many))
