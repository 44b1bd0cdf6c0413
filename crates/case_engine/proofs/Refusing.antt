-- A sentence that passes a limit is refused.
use Rattle.std.proofs.Common.{◌≡◌, ◌≤◌, ◌<◌, ◌+◌, ℕ, Bool, true, false, [], ◌∷◌, ◌++◌, length, refl, sym, ap, subst, ◌∙◌, arith}
use Rattle.std.specs.Prelude.{◌&&◌, Result, Ok, Err, nat_le, nat_lt, if◌then◌else◌}
use Rattle.std.proofs.lemmas.Grind.{common_steps}
use Rattle.cqe_base.specs.declared.text.ScriptKind.TheVariants.{Limit}
use Rattle.cqe_base.specs.Schema.{DatabaseSchema}
use Rattle.cqe_base.specs.Formula.{Formula, negation, nodes}
use Rattle.cqe_base.specs.History.{ViewsWithoutEntries, view_size}
use Rattle.cqe_base.specs.Reading.{Refusal}
use Rattle.case_engine.specs.Script.{Script, script_schema, script_user, all_secrets, with_known, with_secrecy, with_secret, say, say_secrecy}
use Rattle.case_engine.specs.Sound.{IsSound}
use Rattle.case_engine.proofs.Soundness.{known_more, secret_more, secrecy_more, secret_longer, secrecy_longer}

first_fails : (a b c : Bool) → a ≡ false → (a && b && c) ≡ false
first_fails true b c e = absurd cc
first_fails false b c e = refl

second_fails : (a b c : Bool) → b ≡ false → (a && b && c) ≡ false
second_fails true b c e = ap (λ x. x && c) e
second_fails false b c e = refl

third_fails : (a b c : Bool) → c ≡ false → (a && b && c) ≡ false
third_fails true true c e = e
third_fails true false c e = refl
third_fails false b c e = refl

behind : (a b : Bool) → b ≡ false → (a && b) ≡ false
behind true b e = e
behind false b e = refl

not_le : (a b : ℕ) → b < a → nat_le a b ≡ false
not_le a b h = grind (arith, h)

module _ (script : Script) (schema : DatabaseSchema) (n count total : ℕ) (s : Formula) (sound : IsSound script schema n)
    (small : count ≤ 20000 → count ≡ nodes schema s) (large : 20000 < count → 20000 < nodes schema s) (views : ViewsWithoutEntries) where
  many_nodes : nat_le count 20000 ≡ false → nat_le (nodes (script_schema script) s) 20000 ≡ false
  many_nodes e =
      let above : 20000 < count = grind (arith, e) in
      not_le (nodes (script_schema script) s) 20000 (subst (λ x. 20000 < nodes x s) sound.schema_is (large above))

  known_fails : (a b c : Bool) → nat_le count 20000 ≡ a → nat_lt (length script.know) 256 ≡ b → nat_le total 40000 ≡ c
      → nat_le total 40000 ≡ nat_le (n + count) 40000 → (a && (b && c)) ≡ false
      → (nat_le (nodes (script_schema script) s) 20000 && (nat_le (length (script.know ++ s ∷ [])) 256 && nat_le (length (all_secrets script)) 16)
      && nat_le (view_size (script_schema script) (script_user (with_known script s)) []) 40000) ≡ false
  known_fails false b c p q r sum fails = first_fails _ _ _ (many_nodes p)
  known_fails true false c p q r sum fails =
      let many : 256 ≤ length script.know = grind (arith, q) in
      let long : length (script.know ++ s ∷ []) ≡ length script.know + 1 = grind (arith, common_steps) in
      second_fails _ _ _ (ap (λ x. x && nat_le (length (all_secrets script)) 16) (not_le (length (script.know ++ s ∷ [])) 256 (omega (arith, many, long))))
  known_fails true true false p q r sum fails =
      let few : count ≤ 20000 = grind (arith, p) in
      let above : 40000 < n + count = let e = sym sum ∙ r in grind (arith, e) in
      let more = known_more schema script s views in
      let counted = small few in
      let was = sound.nodes_are in
      let over : 40000 < view_size schema (script_user (with_known script s)) [] = omega (arith, above, more, counted, was) in
      third_fails (nat_le (nodes (script_schema script) s) 20000) (nat_le (length (script.know ++ s ∷ [])) 256
      && nat_le (length (all_secrets script)) 16) _
      (not_le (view_size (script_schema script) (script_user (with_known script s)) []) 40000
      (subst (λ x. 40000 < view_size x (script_user (with_known script s)) []) sound.schema_is over))
  known_fails true true true p q r sum fails = absurd cc

  pub known_refused : (read : Result Formula Refusal) → read ≡ Ok s → nat_le total 40000 ≡ nat_le (n + count) 40000
      → (nat_le count 20000 && (nat_lt (length script.know) 256 && nat_le total 40000)) ≡ false → say (with_known script) read ≡ Err Limit
  known_refused read is sum fails =
      ap (say (with_known script)) is
      ∙ ap (λ b. if b then Ok (with_known script s) else Err Limit) (known_fails _ _ _ refl refl refl sum fails)

  secret_fails : (a b c : Bool) → nat_le count 20000 ≡ a → nat_lt (length (all_secrets script)) 16 ≡ b → nat_le total 40000 ≡ c
      → nat_le total 40000 ≡ nat_le (n + (1 + count)) 40000 → (a && (b && c)) ≡ false
      → (nat_le (nodes (script_schema script) s) 20000 && (nat_le (length script.know) 256 && nat_le (length (all_secrets (with_secret script s))) 16)
      && nat_le (view_size (script_schema script) (script_user (with_secret script s)) []) 40000) ≡ false
  secret_fails false b c p q r sum fails = first_fails _ _ _ (many_nodes p)
  secret_fails true false c p q r sum fails =
      let many : 16 ≤ length (all_secrets script) = grind (arith, q) in
      let long = secret_longer script s in
      second_fails _ _ _
      (behind (nat_le (length script.know) 256) (nat_le (length (all_secrets (with_secret script s))) 16)
      (not_le (length (all_secrets (with_secret script s))) 16 (omega (arith, many, long))))
  secret_fails true true false p q r sum fails =
      let few : count ≤ 20000 = grind (arith, p) in
      let above : 40000 < n + (1 + count) = let e = sym sum ∙ r in grind (arith, e) in
      let more = secret_more schema script s views in
      let counted = small few in
      let was = sound.nodes_are in
      let over : 40000 < view_size schema (script_user (with_secret script s)) [] = omega (arith, above, more, counted, was) in
      third_fails (nat_le (nodes (script_schema script) s) 20000) (nat_le (length script.know) 256
      && nat_le (length (all_secrets (with_secret script s))) 16) _
      (not_le (view_size (script_schema script) (script_user (with_secret script s)) []) 40000
      (subst (λ x. 40000 < view_size x (script_user (with_secret script s)) []) sound.schema_is over))
  secret_fails true true true p q r sum fails = absurd cc

  pub secret_refused : (read : Result Formula Refusal) → read ≡ Ok s → nat_le total 40000 ≡ nat_le (n + (1 + count)) 40000
      → (nat_le count 20000 && (nat_lt (length (all_secrets script)) 16 && nat_le total 40000)) ≡ false → say (with_secret script) read ≡ Err Limit
  secret_refused read is sum fails =
      ap (say (with_secret script)) is
      ∙ ap (λ b. if b then Ok (with_secret script s) else Err Limit) (secret_fails _ _ _ refl refl refl sum fails)

-- the count is that of the negation
module _ (script : Script) (schema : DatabaseSchema) (n count total : ℕ) (q : Formula) (sound : IsSound script schema n)
    (small : count ≤ 20000 → count ≡ nodes schema q + 1) (large : 20000 < count → 20000 < nodes schema q + 1) (views : ViewsWithoutEntries) where
  many_negated : nat_le count 20000 ≡ false → nat_le (nodes (script_schema script) (negation q)) 20000 ≡ false
  many_negated e =
      let above : 20000 < count = grind (arith, e) in
      let over : 20000 < nodes schema (negation q) = let l = large above in omega (arith, l) in
      not_le (nodes (script_schema script) (negation q)) 20000 (subst (λ x. 20000 < nodes x (negation q)) sound.schema_is over)

  secrecy_fails : (a b c : Bool) → nat_le count 20000 ≡ a → nat_lt (length (all_secrets script) + 1) 16 ≡ b → nat_le total 40000 ≡ c
      → nat_le total 40000 ≡ nat_le (n + (count + (count + 1))) 40000 → (a && (b && c)) ≡ false
      → (nat_le (nodes (script_schema script) (negation q)) 20000
      && (nat_le (length script.know) 256 && nat_le (length (all_secrets (with_secrecy script q))) 16)
      && nat_le (view_size (script_schema script) (script_user (with_secrecy script q)) []) 40000) ≡ false
  secrecy_fails false b c p s r sum fails = first_fails _ _ _ (many_negated p)
  secrecy_fails true false c p s r sum fails =
      let many : 16 ≤ length (all_secrets script) + 1 = grind (arith, s) in
      let long = secrecy_longer script q in
      second_fails _ _ _
      (behind (nat_le (length script.know) 256) (nat_le (length (all_secrets (with_secrecy script q))) 16)
      (not_le (length (all_secrets (with_secrecy script q))) 16 (omega (arith, many, long))))
  secrecy_fails true true false p s r sum fails =
      let few : count ≤ 20000 = grind (arith, p) in
      let above : 40000 < n + (count + (count + 1)) = let e = sym sum ∙ r in grind (arith, e) in
      let more = secrecy_more schema script q views in
      let counted = small few in
      let was = sound.nodes_are in
      let over : 40000 < view_size schema (script_user (with_secrecy script q)) [] = omega (arith, above, more, counted, was) in
      third_fails (nat_le (nodes (script_schema script) (negation q)) 20000) (nat_le (length script.know) 256
      && nat_le (length (all_secrets (with_secrecy script q))) 16) _
      (not_le (view_size (script_schema script) (script_user (with_secrecy script q)) []) 40000
      (subst (λ x. 40000 < view_size x (script_user (with_secrecy script q)) []) sound.schema_is over))
  secrecy_fails true true true p s r sum fails = absurd cc

  pub secrecy_refused : (read : Result Formula Refusal) → read ≡ Ok q → nat_le total 40000 ≡ nat_le (n + (count + (count + 1))) 40000
      → (nat_le count 20000 && (nat_lt (length (all_secrets script) + 1) 16 && nat_le total 40000)) ≡ false → say_secrecy script read ≡ Err Limit
  secrecy_refused read is sum fails =
      ap (say_secrecy script) is
      ∙ ap (λ b. if b then Ok (with_secrecy script q) else Err Limit) (secrecy_fails _ _ _ refl refl refl sum fails)
