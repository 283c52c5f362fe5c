-- The laws of pending writes: what one holds for a place, and what newer ones hold over older ones.
use Rattle.std.proofs.Common.{◌≡◌, ◌≢◌, ℕ, ◌<◌, List, [], ◌∷◌, ◌++◌, set, Option, Some, None, refl, ap, sym, ◌∙◌, inl, inr, arith, eq-eqb}
use Rattle.std.specs.Option.{option_or, unwrap_or}
use Rattle.std.proofs.lemmas.Bool.{cases_eq, ne_eqb}
use Rattle.std.proofs.lemmas.List.{get_or-set_same}
use Rattle.trap_model.specs.Image.{volume, IsImage}
use Rattle.trap_model.specs.declared.numbers.Geometry.{Geometry}
use Rattle.trap_map.specs.Layout.{parity_member, block_place}
use Rattle.trap_map.specs.Table.{row_parity, table}
use Rattle.trap_map.proofs.TableLemmas.{table_at_block, table_at_parity, written_is_image, others_after_write}
use Rattle.trap_stage.specs.Staged.{Staged, staged_at, newest_at, laid_over, image_after_writes, AreWrites}

-- ---- what one write holds
pub staged_at_block : (g : Geometry) (staged : Staged) (row member : ℕ) → row ≡ (block_place g staged.block).row → member ≡ (block_place g staged.block).member
    → staged_at g staged row member ≡ Some staged.bytes
staged_at_block g staged row member e f = rw (eq-eqb row (block_place g staged.block).row e, eq-eqb member (block_place g staged.block).member f) refl

pub staged_at_parity : (g : Geometry) (staged : Staged) (row member : ℕ) → row ≡ (block_place g staged.block).row → member ≢ (block_place g staged.block).member
    → member ≡ parity_member g row → staged_at g staged row member ≡ Some staged.parity
staged_at_parity g staged row member e h f = rw (eq-eqb row (block_place g staged.block).row e, ne_eqb member (block_place g staged.block).member h, eq-eqb member (parity_member g row) f) refl

pub staged_at_other : (g : Geometry) (staged : Staged) (row member : ℕ) → row ≡ (block_place g staged.block).row → member ≢ (block_place g staged.block).member
    → member ≢ parity_member g row → staged_at g staged row member ≡ None
staged_at_other g staged row member e h f = rw (eq-eqb row (block_place g staged.block).row e, ne_eqb member (block_place g staged.block).member h, ne_eqb member (parity_member g row) f) refl

pub staged_at_row : (g : Geometry) (staged : Staged) (row member : ℕ) → row ≢ (block_place g staged.block).row → staged_at g staged row member ≡ None
staged_at_row g staged row member h = rw (ne_eqb row (block_place g staged.block).row h) refl

-- ---- newer writes over older ones
option_or-assoc : (a b : Option (List ℕ)) (d : List ℕ) → unwrap_or (option_or a b) d ≡ unwrap_or a (unwrap_or b d)
option_or-assoc None b d = refl
option_or-assoc (Some x) b d = refl

pub laid_over-append : (g : Geometry) (newer older : List Staged) (place : ℕ → ℕ → List ℕ) (row member : ℕ)
    → laid_over g (newer ++ older) place row member ≡ laid_over g newer (laid_over g older place) row member
laid_over-append g [] older place row member = refl
laid_over-append g (staged ∷ newer) older place row member =
    option_or-assoc (staged_at g staged row member) (newest_at g (newer ++ older) row member) (place row member)
    ∙ ap (λ b. unwrap_or (staged_at g staged row member) b) (laid_over-append g newer older place row member)
    ∙ sym (option_or-assoc (staged_at g staged row member) (newest_at g newer row member) (laid_over g older place row member))

pub newest_at-append : (g : Geometry) (newer older : List Staged) (row member : ℕ) → newest_at g (newer ++ older) row member ≡ option_or (newest_at g newer row member) (newest_at g older row member)
newest_at-append g [] older row member = refl
newest_at-append g (staged ∷ newer) older row member =
    ap (λ o. option_or (staged_at g staged row member) o) (newest_at-append g newer older row member)
    ∙ turned (staged_at g staged row member) (newest_at g newer row member) (newest_at g older row member)
  where
    turned : (a b c : Option (List ℕ)) → option_or a (option_or b c) ≡ option_or (option_or a b) c
    turned None b c = refl
    turned (Some x) b c = refl

-- what is laid over places that agree where nothing is pending
pub laid_over_same : (g : Geometry) (writes : List Staged) (f h : ℕ → ℕ → List ℕ) (row member : ℕ) → (newest_at g writes row member ≡ None → f row member ≡ h row member)
    → laid_over g writes f row member ≡ laid_over g writes h row member
laid_over_same g writes f h row member alike = either (newest_at g writes row member) (f row member) (h row member) alike
  where
    either : (o : Option (List ℕ)) (x y : List ℕ) → (o ≡ None → x ≡ y) → unwrap_or o x ≡ unwrap_or o y
    either None x y alike = alike refl
    either (Some z) x y alike = refl

-- a place that reads as the table under the writes reads as the next table under one more
pub laid_over_next : (g : Geometry) (writes : List Staged) (place : ℕ → ℕ → List ℕ) (image : List (List ℕ)) (staged : Staged) → IsImage g image → staged.block < volume g
    → staged.parity ≡ row_parity g (set image staged.block staged.bytes) (block_place g staged.block).row → (row member : ℕ) → row < g.rows → member < g.members
    → laid_over g writes place row member ≡ table g image row member → laid_over g (staged ∷ writes) place row member ≡ table g (set image staged.block staged.bytes) row member
laid_over_next g writes place image staged is_image inside parity row member below within rest =
    let here = block_place g staged.block in
    let after = set image staged.block staged.bytes in
    let front = option_or-assoc (staged_at g staged row member) (newest_at g writes row member) (place row member) in
    elim (cases_eq row here.row) [
      | inl e ↦ elim (cases_eq member here.member) [
        | inl f ↦
            front ∙ ap (λ o. unwrap_or o (laid_over g writes place row member)) (staged_at_block g staged row member e f)
            ∙ sym (get_or-set_same image staged.block staged.bytes [] (omega (arith, is_image.long, inside)))
            ∙ sym (table_at_block g after staged.block)
            ∙ ap (λ m. table g after here.row m) (sym f) ∙ ap (λ r. table g after r member) (sym e)
        | inr h ↦ elim (cases_eq member (parity_member g row)) [
          | inl f ↦
              front ∙ ap (λ o. unwrap_or o (laid_over g writes place row member)) (staged_at_parity g staged row member e h f)
              ∙ parity ∙ ap (λ r. row_parity g after r) (sym e) ∙ sym (table_at_parity g after row member f)
          | inr k ↦
              front ∙ ap (λ o. unwrap_or o (laid_over g writes place row member)) (staged_at_other g staged row member e h k)
              ∙ rest ∙ sym (others_after_write g image staged.block staged.bytes row member below within (λ e'. (h, k)))
        ]
      ]
      | inr h ↦
          front ∙ ap (λ o. unwrap_or o (laid_over g writes place row member)) (staged_at_row g staged row member h)
          ∙ rest ∙ sym (others_after_write g image staged.block staged.bytes row member below within (λ e'. absurd (h e')))
    ]

-- ---- the writes over the table before them are the table after them
pub after_is_image : (g : Geometry) (before : List (List ℕ)) → IsImage g before → (writes : List Staged) → AreWrites g before writes → IsImage g (image_after_writes before writes)
after_is_image g before is_image [] writes = is_image
after_is_image g before is_image (staged ∷ older) writes =
    written_is_image g (image_after_writes before older) (after_is_image g before is_image older writes.3) staged.block staged.bytes writes.1

pub table_after_writes : (g : Geometry) (before : List (List ℕ)) → IsImage g before → (writes : List Staged) → AreWrites g before writes → (row member : ℕ) → row < g.rows
    → member < g.members → laid_over g writes (table g before) row member ≡ table g (image_after_writes before writes) row member
table_after_writes g before is_image [] writes row member below inside = refl
table_after_writes g before is_image (staged ∷ older) writes row member below inside =
    laid_over_next g older (table g before) (image_after_writes before older) staged (after_is_image g before is_image older writes.3) writes.0 writes.2 row member below inside
    (table_after_writes g before is_image older writes.3 row member below inside)

-- the newest pending bytes of a place are the table's, whatever the member holds
pub newest_is_table : (g : Geometry) (before : List (List ℕ)) → IsImage g before → (writes : List Staged) → AreWrites g before writes → (row member : ℕ) → row < g.rows
    → member < g.members → (bytes : List ℕ) → newest_at g writes row member ≡ Some bytes → bytes ≡ table g (image_after_writes before writes) row member
newest_is_table g before is_image writes are row member below inside bytes found =
    sym (ap (λ o. unwrap_or o (table g before row member)) found) ∙ table_after_writes g before is_image writes are row member below inside
