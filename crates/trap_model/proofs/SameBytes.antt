-- The exclusive-or of two bytes is zero where they are the same, and nowhere else.
use Rattle.std.proofs.Common.{◌≡◌, ℕ, subst}
use Rattle.std.specs.Int.Bits.{bit_xor, xor_assoc, xor_self, xor_zero_l, xor_zero_r}

pub xor_same : (x y : ℕ) → x ≡ y → bit_xor x y ≡ 0
xor_same x y e = subst (λ z. bit_xor x z ≡ 0) e (xor_self x)

pub same_from_xor : (x y : ℕ) → bit_xor x y ≡ 0 → x ≡ y
same_from_xor x y e =
    let a : bit_xor (bit_xor x y) y ≡ bit_xor x (bit_xor y y) = xor_assoc x y y in
    let b : bit_xor y y ≡ 0 = xor_self y in
    let c : bit_xor x 0 ≡ x = xor_zero_r x in
    let d : bit_xor 0 y ≡ y = xor_zero_l y in
    cc
