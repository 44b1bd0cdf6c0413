-- Bytes line by line: what one more byte does, and many.
use Rattle.std.proofs.Common.{◌≡◌, ℕ, zero, suc, ◌<◌, ◌≤◌, ◌==◌, true, false, List, [], ◌∷◌, ◌++◌, length, take, drop, get_or, refl, ap, ◌∙◌, arith}
use Rattle.std.proofs.Common.{append_assoc}
use Rattle.std.specs.Prelude.{if◌then◌else◌}
use Rattle.std.proofs.lemmas.List.{append-nil}
use Rattle.cqe_base.specs.Lines.{lines_begun, text_lines}

pub no_lines : text_lines [] ≡ []
unfolding text_lines
no_lines = refl

pub nothing_left : (ahead left : List ℕ) → ahead ++ left ≡ [] → left ≡ []
nothing_left [] left e = e
nothing_left (b ∷ ahead) left e = absurd cc

lines_begun-more : (line rest : List ℕ) (b : ℕ)
    → lines_begun line (b ∷ rest) ≡ (if b == 10 then record { bytes = line; ended = true } ∷ lines_begun [] rest else lines_begun (line ++ b ∷ []) rest)
lines_begun-more [] rest b = refl
lines_begun-more (c ∷ line) rest b = refl

-- a byte that is no line feed goes to the line
pub lines_begun-byte : (line rest : List ℕ) (b : ℕ) → (b == 10) ≡ false → lines_begun line (b ∷ rest) ≡ lines_begun (line ++ b ∷ []) rest
lines_begun-byte line rest b differs = lines_begun-more line rest b ∙ rw differs refl

-- a line feed ends the line
pub lines_begun-feed : (line rest : List ℕ) (b : ℕ) → (b == 10) ≡ true
    → lines_begun line (b ∷ rest) ≡ record { bytes = line; ended = true } ∷ lines_begun [] rest
lines_begun-feed line rest b equal = lines_begun-more line rest b ∙ rw equal refl

-- bytes without a line feed go to the line
pub lines_begun-skip : (line bytes : List ℕ) (n : ℕ) → n ≤ length bytes → ((k : ℕ) → k < n → (get_or bytes k 0 == 10) ≡ false)
    → lines_begun line bytes ≡ lines_begun (line ++ take n bytes) (drop n bytes)
lines_begun-skip line bytes zero fits none = rw append-nil refl
lines_begun-skip line [] (suc n) fits none = absurd (omega arith)
lines_begun-skip line (b ∷ bytes) (suc n) fits none =
    lines_begun-byte line bytes b (none 0 (omega arith))
    ∙ lines_begun-skip (line ++ b ∷ []) bytes n (omega arith) (λ k low. none (suc k) (omega arith))
    ∙ ap (λ (l : List ℕ). lines_begun l (drop n bytes)) (append_assoc line (b ∷ []) (take n bytes))
