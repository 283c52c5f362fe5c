-- A request of a drill.
use Rattle.std.proofs.Common.{◌≡◌, ℕ, ◌+◌, ◌*◌, ◌/◌, ◌%◌, ◌^◌, List, length, set, replicate, ap, sym, ◌∙◌, subst}
use Rattle.trap_model.specs.Image.{volume}
use Rattle.trap_model.specs.declared.numbers.Geometry.{Geometry}
use Rattle.trap_drill.specs.Drilled.{Drilled, IsNext, number}
use Rattle.trap_drill.proofs.Numbers.{number_more}

-- what is made of the generator's next number is the next request
pub next_is : (p : Drilled) (g : Geometry) (seed count made x y b k : ℕ) (old fresh : List ℕ)
    → record { g = g; seed = seed; count = count; made = made } ≡ p → x ≡ number seed made
    → y ≡ (x * 1103515245 + 12345) % 2 ^ 31 → b ≡ y / 65536 % volume g → k ≡ made + 1 → length old ≡ p.g.block
    → fresh ≡ set (replicate (length old) 0) (y / 256 % length old) (1 + (made + 1) % 255)
    → IsNext p (record { g = g; seed = seed; count = count; made = made + 1 }) b k fresh
next_is p g seed count made x y b k old fresh e reached after named counted size filled =
    let same : y ≡ number seed k =
    after ∙ ap (λ n. (n * 1103515245 + 12345) % 2 ^ 31) reached ∙ sym (number_more seed made) ∙ ap (number seed) (sym counted) in
    let first : length old ≡ g.block → IsNext (record { g = g; seed = seed; count = count; made = made }) (record { g = g; seed = seed; count = count; made = made + 1 }) b k fresh =
    λ long. record {
      counted = counted;
      named = named ∙ ap (λ n. n / 65536 % volume g) same;
      filled = filled ∙ ap (λ len. set (replicate len 0) (y / 256 % len) (1 + (made + 1) % 255)) long
          ∙ ap (λ n. set (replicate g.block 0) (n / 256 % g.block) (1 + (made + 1) % 255)) same
          ∙ ap (λ m. set (replicate g.block 0) (number seed k / 256 % g.block) (1 + m % 255)) (sym counted);
      made = ap (λ m. record { g = g; seed = seed; count = count; made = m }) (sym counted);
    } in
    subst (λ q. length old ≡ q.g.block → IsNext q (record { g = g; seed = seed; count = count; made = made + 1 }) b k fresh) e first size
