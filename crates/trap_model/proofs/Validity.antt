-- What entries keep: images stay images.
use Rattle.std.proofs.Common.{◌≡◌, ◌≢◌, ℕ, ◌+◌, ◌<◌, ◌≤◌, ◌^◌, List, [], ◌∷◌, length, get_or, take, ap, sym, ◌∙◌, arith, subst, length-set, ⊎_elim}
use Rattle.std.specs.Prelude.{All}
use Rattle.std.proofs.lemmas.Bool.{cases_eq}
use Rattle.std.proofs.lemmas.List.Elements.{All-head, All-tail, All-take}
use Rattle.trap_model.specs.declared.numbers.Geometry.{Geometry}
use Rattle.trap_model.specs.declared.history.Entry.{Entry}
use Rattle.trap_model.specs.declared.history.State.{State}
use Rattle.trap_model.specs.Image.{volume, block_of, IsImage, written, image_after}
use Rattle.trap_model.specs.State.{IsEntry, IsValid}
use Rattle.trap_model.specs.Size.{entry_size, size_over}
use Rattle.trap_model.proofs.Images.{block_written_same, block_written_other}
use Rattle.trap_model.proofs.Histories.{size_over_more, size_over-take}

pub written_is_image : (g : Geometry) (image : List (List ℕ)) (entry : Entry) → IsImage g image → IsEntry g entry → IsImage g (written image entry)
written_is_image g image entry is fits = record {
  long = length-set image entry.block entry.bytes ∙ is.long;
  sized = λ number inside.
      ⊎_elim
      (λ (same : entry.block ≡ number).
      let within : number < length image = omega (arith, is.long) in
      ap length (block_written_same image entry number same within) ∙ fits.size)
      (λ (other : entry.block ≢ number). ap length (block_written_other image entry number other) ∙ is.sized number inside)
      (cases_eq entry.block number);
}

pub image_after_is_image : (g : Geometry) (base : List (List ℕ)) (xs : List Entry) → IsImage g base → All (IsEntry g) xs → IsImage g (image_after base xs)
image_after_is_image g base [] is all = is
image_after_is_image g base (x ∷ xs) is all =
    image_after_is_image g (written base x) xs (written_is_image g base x is (All-head (IsEntry g) x xs all)) (All-tail (IsEntry g) x xs all)

-- an entry that was read
pub entry_read : (g : Geometry) (xs : List Entry) (i : ℕ) (x : Entry) → All (IsEntry g) xs → i < length xs → x ≡ get_or xs i x → IsEntry g x
entry_read g xs i x all inside is = subst (IsEntry g) (sym is) (all i x inside)

-- a block at an instant
pub sized_after : (g : Geometry) (s : State) (k number : ℕ) → IsValid g s → number < volume g → length (block_of (image_after s.base (take k s.entries)) number) ≡ g.block
sized_after g s k number valid inside =
    (image_after_is_image g s.base (take k s.entries) valid.base (All-take (IsEntry g) k s.entries valid.entries)).sized number inside

-- one more entry, over its block as it was before
pub record Sized (g : Geometry) (s : State) (i : ℕ) (x : Entry) (old : List ℕ) : Type 0 where
  pub before : length old ≡ g.block
  pub after : length x.bytes ≡ g.block
  pub more : size_over s.base (take (i + 1) s.entries) ≡ size_over s.base (take i s.entries) + entry_size old x
  pub most : size_over s.base (take (i + 1) s.entries) ≤ 2 ^ 32

pub sized : (g : Geometry) (s : State) (i : ℕ) (x : Entry) (old : List ℕ) → IsValid g s → i < length s.entries → x ≡ get_or s.entries i x
    → old ≡ block_of (image_after s.base (take i s.entries)) x.block → Sized g s i x old
sized g s i x old valid inside is at =
    let entry : IsEntry g x = entry_read g s.entries i x valid.entries inside is in
    let most = size_over-take s.base s.entries (i + 1) in
    record {
      before = ap length at ∙ sized_after g s i x.block valid entry.block;
      after = entry.size;
      more = size_over_more s.base s.entries i x inside is ∙ ap (λ (o : List ℕ). size_over s.base (take i s.entries) + entry_size o x) (sym at);
      most = omega (arith, valid.fits, g.within.ring_most);
    }
