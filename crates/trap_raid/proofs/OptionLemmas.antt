-- Bytes that are there, or aren't.
use Rattle.std.proofs.Common.{◌≡◌, ◌⊎◌, ℕ, List, Option, Some, None, refl, inl, inr}

pub some_or_none : (o : Option (List ℕ)) → (o ≡ None) ⊎ ((bytes : List ℕ) × (o ≡ Some bytes))
some_or_none None = inl refl
some_or_none (Some bytes) = inr (bytes, refl)

pub not_both : (o : Option (List ℕ)) (bytes : List ℕ) → o ≡ None → o ≡ Some bytes → ⊥
not_both o bytes none some = cc
