-- When places stand for an image's table: from pending writes, with less trust, and after a further write.
use Rattle.std.proofs.Common.{◌≡◌, ℕ, ◌<◌, List, [], ◌∷◌, set, Option, Some, None, refl, ap, sym, ◌∙◌, inl, inr, subst, arith}
use Rattle.std.specs.Option.{MatchOption, option_or, unwrap_or}
use Rattle.std.proofs.lemmas.Bool.{cases_eq}
use Rattle.std.proofs.lemmas.List.{get_or-set_same}
use Rattle.trap_model.specs.Image.{volume, IsImage}
use Rattle.trap_model.specs.declared.numbers.Geometry.{Geometry}
use Rattle.trap_map.specs.Layout.{parity_member, block_place}
use Rattle.trap_map.specs.Table.{row_parity, table}
use Rattle.trap_map.proofs.TableLemmas.{table_at_block, table_at_parity, others_after_write}
use Rattle.trap_stage.specs.Staged.{Staged, staged_at, newest_at, laid_over, image_after_writes, AreWrites, StandWhere}
use Rattle.trap_stage.proofs.Overlays.{newest_is_table, staged_at_block, staged_at_parity, staged_at_other, staged_at_row}

-- writes with the parity of the table after each, and members that read as the table under them, stand for the image after the writes
pub stand_from_writes : (g : Geometry) (IsTrusted : ℕ → ℕ → Type 0) (before : List (List ℕ)) (writes : List Staged) (place : ℕ → ℕ → List ℕ) → IsImage g before
    → AreWrites g before writes → ((row member : ℕ) → row < g.rows → member < g.members → IsTrusted row member
    → laid_over g writes place row member ≡ table g (image_after_writes before writes) row member) → StandWhere g IsTrusted writes place (image_after_writes before writes)
stand_from_writes g IsTrusted before writes place is_image are laid = λ row member below inside.
    split (newest_at g writes row member) (place row member) (table g (image_after_writes before writes) row member) (IsTrusted row member) (laid row member below inside)
    (newest_is_table g before is_image writes are row member below inside)
  where
    split : (o : Option (List ℕ)) (x w : List ℕ) (P : Type 0) → (P → unwrap_or o x ≡ w) → ((bytes : List ℕ) → o ≡ Some bytes → bytes ≡ w) → MatchOption o (P → x ≡ w) (λ bytes. bytes ≡ w)
    split None x w P h k = h
    split (Some y) x w P h k = k y refl

-- what a place holds, or what is pending for it, is wanted there
abbrev Stands : Option (List ℕ) → Type 0 → List ℕ → List ℕ → Type 0
Stands o P held wanted = MatchOption o (P → held ≡ wanted) (λ bytes. bytes ≡ wanted)

-- less trust asks less
pub stand_weaker : (g : Geometry) (IsTrusted IsTrustedToo : ℕ → ℕ → Type 0) (writes : List Staged) (place : ℕ → ℕ → List ℕ) (image : List (List ℕ))
    → StandWhere g IsTrusted writes place image → ((row member : ℕ) → row < g.rows → member < g.members → IsTrustedToo row member → IsTrusted row member) → StandWhere g IsTrustedToo writes place image
stand_weaker g IsTrusted IsTrustedToo writes place image stands less = λ row member below within.
    freed (newest_at g writes row member) (IsTrusted row member) (IsTrustedToo row member) (place row member) (table g image row member) (less row member below within) (stands row member below within)
  where
    freed : (o : Option (List ℕ)) (P Q : Type 0) (held wanted : List ℕ) → (Q → P) → Stands o P held wanted → Stands o Q held wanted
    freed None P Q held wanted f h = λ q. h (f q)
    freed (Some x) P Q held wanted f h = h

over_some : (o rest : Option (List ℕ)) (bytes : List ℕ) (P : Type 0) (held wanted : List ℕ) → o ≡ Some bytes → bytes ≡ wanted → Stands (option_or o rest) P held wanted
over_some o rest bytes P held wanted e f = let Q : Option (List ℕ) → Type 0 = λ o. Stands (option_or o rest) P held wanted in subst Q (sym e) f

over_none : (o rest : Option (List ℕ)) (P : Type 0) (held old wanted : List ℕ) → o ≡ None → wanted ≡ old → Stands rest P held old → Stands (option_or o rest) P held wanted
over_none o rest P held old wanted e f h =
    let Q : Option (List ℕ) → Type 0 = λ o. Stands (option_or o rest) P held wanted in
    let R : List ℕ → Type 0 = λ w. Stands rest P held w in
    subst Q (sym e) (subst R (sym f) h)

-- a further write in front, and the image with its block written
pub stand_after_write : (g : Geometry) (IsTrusted : ℕ → ℕ → Type 0) (writes : List Staged) (place : ℕ → ℕ → List ℕ) (image : List (List ℕ)) (staged : Staged)
    → IsImage g image → StandWhere g IsTrusted writes place image → staged.block < volume g
    → staged.parity ≡ row_parity g (set image staged.block staged.bytes) (block_place g staged.block).row → StandWhere g IsTrusted (staged ∷ writes) place (set image staged.block staged.bytes)
stand_after_write g IsTrusted writes place image staged is_image stands inside parity = λ row member below within.
    let here = block_place g staged.block in
    let after = set image staged.block staged.bytes in
    let rest = newest_at g writes row member in
    let P : Type 0 = IsTrusted row member in
    elim (cases_eq row here.row) [
      | inl e ↦ elim (cases_eq member here.member) [
        | inl f ↦
            let block : table g after here.row here.member ≡ staged.bytes =
            table_at_block g after staged.block ∙ get_or-set_same image staged.block staged.bytes [] (omega (arith, is_image.long, inside)) in
            over_some (staged_at g staged row member) rest staged.bytes P (place row member) (table g after row member) (staged_at_block g staged row member e f)
            (sym (ap (λ r. table g after r member) e ∙ ap (λ m. table g after here.row m) f ∙ block))
        | inr h ↦ elim (cases_eq member (parity_member g row)) [
          | inl f ↦
              over_some (staged_at g staged row member) rest staged.parity P (place row member) (table g after row member) (staged_at_parity g staged row member e h f)
              (parity ∙ ap (λ r. row_parity g after r) (sym e) ∙ sym (table_at_parity g after row member f))
          | inr k ↦
              over_none (staged_at g staged row member) rest P (place row member) (table g image row member) (table g after row member) (staged_at_other g staged row member e h k)
              (others_after_write g image staged.block staged.bytes row member below within (λ e'. (h, k))) (stands row member below within)
        ]
      ]
      | inr h ↦
          over_none (staged_at g staged row member) rest P (place row member) (table g image row member) (table g after row member) (staged_at_row g staged row member h)
          (others_after_write g image staged.block staged.bytes row member below within (λ e'. absurd (h e'))) (stands row member below within)
    ]
