-- What is guarded: for lying one sentence alone, and with one more secret no more than was guarded before and what is tested for it.
use Rattle.std.proofs.Common.{◌≡◌, zero, suc, true, List, [], ◌∷◌, ◌++◌, sym, ap, ◌∙◌, ◌⊎◌, inl, inr, arith}
use Rattle.std.specs.Prelude.{Contains}
use Rattle.std.proofs.Math.Bool.{or-false}
use Rattle.std.proofs.lemmas.List.Elements.{Contains-append_cases}
use Rattle.cqe_base.specs.declared.user.Method.{Method}
use Rattle.cqe_base.specs.declared.user.Method.TheVariants.{Lying, Refusal, Combined}
use Rattle.cqe_base.specs.Schema.{DatabaseSchema}
use Rattle.cqe_base.specs.Formula.{Formula}
use Rattle.cqe_base.specs.Entailment.{Signed, entails}
use Rattle.cqe_base.specs.History.{disjunction_of}
use Rattle.cqe_base.specs.Censor.{guarded_by, guard_by, entails_some}

-- what lying guards is one sentence: where some guarded sentence is entailed, each is
pub lying_guards_one : (schema : DatabaseSchema) (premises : List Signed) (secrets : List Formula) (m : Method) → m ≡ Lying → (g : Formula)
    → Contains (guarded_by m secrets) g → entails_some schema premises (guarded_by m secrets) ≡ true → entails schema premises (g, true) ≡ true
lying_guards_one schema premises secrets Lying is g (zero, low, e) some = ap (λ h. entails schema premises (h, true)) (sym e) ∙ sym (or-false _) ∙ some
lying_guards_one schema premises secrets Lying is g (suc k, low, e) some = absurd (omega arith)
lying_guards_one schema premises secrets Refusal is g in_list some = absurd cc
lying_guards_one schema premises secrets Combined is g in_list some = absurd cc

-- an element of one sentence is that one
pub the_one : (s g : Formula) → Contains (s ∷ []) g → g ≡ s
the_one s g (zero, low, is) = sym is
the_one s g (suc k, low, is) = absurd (omega arith)

-- one of the sentences with one more is one of them, or that one
contains-push : (xs : List Formula) (s g : Formula) → Contains (xs ++ s ∷ []) g → Contains xs g ⊎ (g ≡ s)
contains-push xs s g within = by (Contains-append_cases xs (s ∷ []) g within)
  where
    by : Contains xs g ⊎ Contains (s ∷ []) g → Contains xs g ⊎ (g ≡ s)
    by (inl old) = inl old
    by (inr new) = inr (the_one s g new)

-- what is guarded with one more secret was guarded before, or is what is tested for it
pub guarded-push : (m : Method) (secrets : List Formula) (s g : Formula) → Contains (guarded_by m (secrets ++ s ∷ [])) g
    → Contains (guarded_by m secrets) g ⊎ (g ≡ guard_by m (secrets ++ s ∷ []) s)
guarded-push Lying secrets s g within = inr (the_one (disjunction_of (secrets ++ s ∷ [])) g within)
guarded-push Refusal secrets s g within = contains-push secrets s g within
guarded-push Combined secrets s g within = contains-push secrets s g within
