-- Draws, one after another.
use Rattle.std.proofs.Common.{◌≡◌, ℕ, zero, suc, ◌+◌, List, [], ◌∷◌, ◌++◌, length, refl, ◌∙◌, ap, add-one}
use Rattle.trap_bank.specs.Draws.{next_number, drawn_byte, after_draws, drawn}

pub one_more_draw : (n x : ℕ) → after_draws (suc n) x ≡ next_number (after_draws n x)
one_more_draw zero x = refl
one_more_draw (suc n) x = one_more_draw n (next_number x)

pub one_more_byte : (n x : ℕ) → drawn (suc n) x ≡ drawn n x ++ drawn_byte (next_number (after_draws n x)) ∷ []
one_more_byte zero x = refl
one_more_byte (suc n) x = ap (λ (bytes : List ℕ). drawn_byte (next_number x) ∷ bytes) (one_more_byte n (next_number x))

pub length-drawn : (n x : ℕ) → length (drawn n x) ≡ n
length-drawn zero x = refl
length-drawn (suc n) x = ap (λ (k : ℕ). suc k) (length-drawn n (next_number x))

pub next_draw : (n x : ℕ) → after_draws (n + 1) x ≡ next_number (after_draws n x)
next_draw n x = ap (λ (k : ℕ). after_draws k x) (add-one n) ∙ one_more_draw n x

pub next_byte : (n x : ℕ) → drawn (n + 1) x ≡ drawn n x ++ drawn_byte (next_number (after_draws n x)) ∷ []
next_byte n x = ap (λ (k : ℕ). drawn k x) (add-one n) ∙ one_more_byte n x
