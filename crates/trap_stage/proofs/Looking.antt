-- The newest pending bytes of a place, looked for from the newest slot on.
use Rattle.std.proofs.Common.{◌≡◌, ℕ, suc, ◌+◌, ◌-◌, ◌<◌, ◌≤◌, List, ◌∷◌, Some, None, ap, sym, ◌∙◌, arith}
use Rattle.std.specs.Option.{option_or}
use Rattle.trap_model.specs.declared.numbers.Geometry.{Geometry}
use Rattle.trap_stage.specs.Staged.{staged_at, newest_at}
use Rattle.trap_stage.specs.Slots.{Stage}
use Rattle.trap_stage.specs.Held.{slot_held, staged_from, staged_held, writes_held}

-- nothing was found above this number, so the newest bytes are those of the writes up to it
pub record LooksFrom (g : Geometry) (slots : List ℕ) (stage : Stage) (drained last seq row member : ℕ) : Type 0 where
  pub low : drained ≤ seq
  pub high : seq ≤ last
  pub rest : newest_at stage.g stage.pending row member ≡ newest_at g (writes_held g slots drained (seq - drained)) row member

-- the write with this number is the first of those up to it
pub held_first : (g : Geometry) (slots : List ℕ) (drained seq : ℕ) → drained < seq → writes_held g slots drained (seq - drained) ≡ staged_held g slots seq ∷ writes_held g
    slots drained (seq - 1 - drained)
held_first g slots drained seq low =
    let count : seq - drained ≡ suc (seq - 1 - drained) = omega arith in
    let number : drained + suc (seq - 1 - drained) ≡ seq = omega arith in
    ap (λ (n : ℕ). writes_held g slots drained n) count
    ∙ ap (λ (n : ℕ). staged_held g slots n ∷ writes_held g slots drained (seq - 1 - drained)) number

-- it has bytes for the place
pub found_here : (g : Geometry) (slots slot : List ℕ) (stage : Stage) (drained last seq row member : ℕ) (bytes : List ℕ)
    → LooksFrom g slots stage drained last seq row member → drained < seq → slot ≡ slot_held g slots seq → staged_at g (staged_from g slot) row member ≡ Some bytes
    → newest_at stage.g stage.pending row member ≡ Some bytes
found_here g slots slot stage drained last seq row member bytes looks low is found =
    looks.rest ∙ ap (λ ws. newest_at g ws row member) (held_first g slots drained seq low)
    ∙ ap (λ o. option_or o (newest_at g (writes_held g slots drained (seq - 1 - drained)) row member))
    (ap (λ l. staged_at g (staged_from g l) row member) (sym is) ∙ found)

-- or it has none
pub looks_on : (g : Geometry) (slots slot : List ℕ) (stage : Stage) (drained last seq row member : ℕ) → LooksFrom g slots stage drained last seq row member
    → drained < seq → slot ≡ slot_held g slots seq → staged_at g (staged_from g slot) row member ≡ None → LooksFrom g slots stage drained last (seq - 1) row member
looks_on g slots slot stage drained last seq row member looks low is none =
    let high = looks.high in
    record {
      low = omega arith;
      high = omega arith;
      rest = looks.rest ∙ ap (λ ws. newest_at g ws row member) (held_first g slots drained seq low)
          ∙ ap (λ o. option_or o (newest_at g (writes_held g slots drained (seq - 1 - drained)) row member))
          (ap (λ l. staged_at g (staged_from g l) row member) (sym is) ∙ none);
    }

-- nothing is pending for the place
pub found_nothing : (g : Geometry) (slots : List ℕ) (stage : Stage) (drained last seq row member : ℕ) → LooksFrom g slots stage drained last seq row member
    → seq ≤ drained → newest_at stage.g stage.pending row member ≡ None
found_nothing g slots stage drained last seq row member looks end =
    let none : seq - drained ≡ 0 = omega arith in
    looks.rest ∙ ap (λ (n : ℕ). newest_at g (writes_held g slots drained n) row member) none
