-- Secrecies: what their secrets are, and that liars have none.
use Rattle.std.proofs.Common.{◌≡◌, ℕ, zero, suc, ◌+◌, ◌*◌, ◌<◌, ◌≤◌, true, List, [], ◌∷◌, length, refl, sym, ap, subst, ◌∙◌, length-append, arith}
use Rattle.std.specs.Prelude.{◌&&◌, Contains, slice_index_or}
use Rattle.std.specs.List.{list_all}
use Rattle.std.proofs.lemmas.Bool.{and_parts, and_from}
use Rattle.std.proofs.lemmas.List.{get_or_append_left}
use Rattle.std.proofs.lemmas.List.Elements.{Contains-get_or, Contains-append_left, Contains-append_right}
use Rattle.cqe_base.specs.Formula.{Formula, falsum, negation}
use Rattle.cqe_base.specs.History.{UserProfile, History, added_secrets, user_at}
use Rattle.cqe_base.specs.Censor.{admitted}
use Rattle.cqe_base.specs.Hiding.{Hides, SecreciesStayOpen}
use Rattle.cqe_base.specs.Secrecies.{secrecy_at, with_secrecies, HasPairs, IsProtectedBothWays, SecretsHaveSecrecies, PairsAreProtected, LiarsKeepNoSecrecy}
use Rattle.cqe_base.specs.Secrecies.{SecretsAreCounted, SecretsAllPass, PairsStay}
use Rattle.cqe_base.proofs.Truths.{true_is_not_false, false_if_not_true}
use Rattle.cqe_base.proofs.Legal.{empty_history_is_legal}
use Rattle.cqe_base.proofs.Confidential.{legal_histories_hide, negated_false}

pub pairs_are_protected : PairsAreProtected
pairs_are_protected user k pairs low =
    let enough = pairs.enough in
    record {
      sentence_secret = Contains-get_or user.secrets (2 * k) falsum (omega arith);
      negation_secret = subst (Contains user.secrets) (pairs.negated k low) (Contains-get_or user.secrets (2 * k + 1) falsum (omega arith));
    }

-- what is protected both ways stays so with what a history adds
stays_protected : (user : UserProfile) (entries : History) (sentence : Formula) → IsProtectedBothWays user sentence
    → IsProtectedBothWays (user_at user entries) sentence
stays_protected user entries sentence protected = record {
  sentence_secret = Contains-append_left user.secrets (added_secrets entries) sentence protected.sentence_secret;
  negation_secret = Contains-append_left user.secrets (added_secrets entries) (negation sentence) protected.negation_secret;
}

pub pairs_stay : PairsStay
pairs_stay user entries pairs =
    let enough = pairs.enough in
    let grown = length-append user.secrets (added_secrets entries) in
    record {
      enough = omega (arith, enough, grown);
      negated = λ k low.
          let stated = get_or_append_left user.secrets (added_secrets entries) falsum (2 * k) (omega (arith, enough, low)) in
          get_or_append_left user.secrets (added_secrets entries) falsum (2 * k + 1) (omega (arith, enough, low))
          ∙ pairs.negated k low ∙ ap negation (sym stated);
    }

pub secrecies_stay_open : SecreciesStayOpen
secrecies_stay_open schema world user entries k valid of_schema sentences admits legal pairs low =
    let hides : Hides schema world user entries = legal_histories_hide schema world user entries valid of_schema sentences admits legal in
    hides.both_ways (secrecy_at user k) (stays_protected user entries (secrecy_at user k) (pairs_are_protected user k pairs low))

pub liars_keep_no_secrecy : LiarsKeepNoSecrecy
liars_keep_no_secrecy schema world user valid of_schema pairs lies some = false_if_not_true _ never
  where
    never : admitted schema world user ≡ true → ⊥
    never admits =
        let hides : Hides schema world user [] =
        legal_histories_hide schema world user [] valid of_schema refl admits (empty_history_is_legal schema world user) in
        let protected : IsProtectedBothWays (user_at user []) (secrecy_at user 0) =
        stays_protected user [] (secrecy_at user 0) (pairs_are_protected user 0 pairs (omega arith)) in
        let one = hides.one_world lies in
        true_is_not_false
        (sym (negated_false schema one.0 (secrecy_at user 0) (one.2 (negation (secrecy_at user 0)) protected.negation_secret))
        ∙ one.2 (secrecy_at user 0) protected.sentence_secret)

-- ---- secrecies make pairs

pub secrets_are_counted : SecretsAreCounted
secrets_are_counted [] others = omega arith
secrets_are_counted (q ∷ secrecies) others = let rest = secrets_are_counted secrecies others in omega (arith, rest)

pub secrets_all_pass : SecretsAllPass
secrets_all_pass test [] others stated negated all = all
secrets_all_pass test (q ∷ secrecies) others stated negated all =
    let first = and_parts (test q) (list_all test secrecies) stated in
    let second = and_parts (test (negation q)) (list_all (λ s. test (negation s)) secrecies) negated in
    and_from (test q) (test (negation q) && list_all test (with_secrecies secrecies others)) first.0
    (and_from (test (negation q)) (list_all test (with_secrecies secrecies others)) second.0
    (secrets_all_pass test secrecies others first.1 second.1 all))

pairs_at : (secrecies others : List Formula) (k : ℕ) → k < length secrecies
    → slice_index_or (with_secrecies secrecies others) (2 * k + 1) falsum ≡ negation (slice_index_or (with_secrecies secrecies others) (2 * k) falsum)
pairs_at [] others k low = absurd (omega arith)
pairs_at (q ∷ secrecies) others zero low = refl
pairs_at (q ∷ secrecies) others (suc k) low =
    let first : 2 * suc k ≡ suc (suc (2 * k)) = omega arith in
    let second : 2 * suc k + 1 ≡ suc (suc (2 * k + 1)) = omega arith in
    ap (λ n. slice_index_or (with_secrecies (q ∷ secrecies) others) n falsum) second
    ∙ pairs_at secrecies others k (omega arith)
    ∙ ap (λ n. negation (slice_index_or (with_secrecies (q ∷ secrecies) others) n falsum)) (sym first)

protected_at : (secrecies others : List Formula) (q : Formula) (k : ℕ) → k < length secrecies → slice_index_or secrecies k q ≡ q
    → Contains (with_secrecies secrecies others) q × Contains (with_secrecies secrecies others) (negation q)
protected_at [] others q k low at = absurd (omega arith)
protected_at (first ∷ secrecies) others q zero low at = ((0, omega arith, at), (1, omega arith, ap negation at))
protected_at (first ∷ secrecies) others q (suc k) low at =
    let rest = protected_at secrecies others q k (omega arith) at in (
      Contains-append_right (first ∷ negation first ∷ []) (with_secrecies secrecies others) q rest.0,
      Contains-append_right (first ∷ negation first ∷ []) (with_secrecies secrecies others) (negation q) rest.1,
    )

pub secrets_have_secrecies : SecretsHaveSecrecies
secrets_have_secrecies user secrecies others is count = record {
  pairs = pairs;
  protected = λ q within.
      let both = protected_at secrecies others q within.0 within.1 within.2 in
      record {
        sentence_secret = subst (λ secrets. Contains secrets q) (sym is) both.0;
        negation_secret = subst (λ secrets. Contains secrets (negation q)) (sym is) both.1;
      };
}
  where
    pairs : HasPairs user
    pairs = record {
      enough =
          subst (λ secrets. 2 * user.pairs ≤ length secrets) (sym is)
          (subst (λ n. 2 * n ≤ length (with_secrecies secrecies others)) (sym count) (omega (arith, secrets_are_counted secrecies others)));
      negated = λ k low.
          subst (λ secrets. slice_index_or secrets (2 * k + 1) falsum ≡ negation (slice_index_or secrets (2 * k) falsum)) (sym is)
          (pairs_at secrecies others k (subst (λ n. k < n) count low));
    }
