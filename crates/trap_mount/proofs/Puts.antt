-- A put of the head: where the disks fit it already, they hold its state.
use Rattle.std.proofs.Common.{◌≡◌, ◌⊎◌, Some, inl, inr, ⊎_elim, refl, sym, subst, ◌∙◌}
use Rattle.std.proofs.lemmas.Option.{same_Some}
use Rattle.trap_bank.specs.Disks.{Disks, View, Differs}
use Rattle.trap_cell.specs.Slots.{Place, Slots, cell_area, cell_value, other_slot}
use Rattle.trap_cell.specs.Steps.{PutsIn, IsPut}
use Rattle.trap_cell.proofs.Beside.{within_cell}
use Rattle.trap_format.specs.HeadValue.{IsHead, head_value}
use Rattle.trap_format.specs.declared.head.Head.{Head}
use Rattle.trap_format.proofs.Spellings.{heads_same}
use Rattle.trap_model.specs.declared.numbers.Geometry.{Geometry}
use Rattle.trap_model.specs.declared.history.State.{State}
use Rattle.trap_mount.specs.Holding.{head_place, MatchesHead, HoldsBy, Holds, InCell}
use Rattle.trap_mount.proofs.Frames.{fits_stay, beside_cell}

pub put_in_cell : (k : Slots) (x y : Disks) → k.place ≡ head_place → Differs (other_slot k) x y → Differs InCell x y
put_in_cell k x y is_head differs = subst (λ (p : Place). Differs (cell_area p) x y) is_head (within_cell k x y differs)

-- only the head's cell changed
pub fits_put : (g : Geometry) (h : Head) (s : State) (x y : Disks) → Differs InCell x y → MatchesHead g h s x → MatchesHead g h s y
fits_put g h s x y differs fits = fits_stay InCell x y differs g h s (beside_cell g h s) fits

module _ (g : Geometry) (h t : Head) (s u : State) (k : Slots) (is_head : k.place ≡ head_place) (x y : Disks) (holds : HoldsBy g h s x) (fits : MatchesHead g t u x) where
  -- while it goes on, the disks hold the one state or the other
  pub put_holds : PutsIn k (head_value t) x y → HoldsBy g h s y ⊎ HoldsBy g t u y
  put_holds puts =
      let within = put_in_cell k x y is_head puts.differs in
      ⊎_elim
      (λ old. inl (record { value = subst (λ (q : Place). cell_value q y ≡ cell_value q x) is_head old ∙ holds.value; fits = fits_put g h s x y within holds.fits }))
      (λ new. inr (record { value = subst (λ (q : Place). cell_value q y ≡ Some (head_value t)) is_head new; fits = fits_put g t u x y within fits }))
      puts.either

  -- and then the next one
  pub put_held : (v : View) (l : Slots) → IsPut v k l (head_value t) x y → HoldsBy g t u y
  put_held v l put = record {
    value = subst (λ (q : Place). cell_value q y ≡ Some (head_value t)) is_head put.value;
    fits = fits_put g t u x y (put_in_cell k x y is_head put.differs) fits;
  }

-- the head that is read is the one by which a state is held
pub held_by_read : (g : Geometry) (h : Head) (s : State) (x : Disks) → Holds g s x → cell_value head_place x ≡ Some (head_value h) → IsHead g h → HoldsBy g h s x
held_by_read g h s x holds read is =
    let same : head_value holds.head ≡ head_value h = same_Some (head_value holds.head) (head_value h) (sym holds.by.value ∙ read) in
    let one : holds.head ≡ h = heads_same g holds.head h (head_value h) (record { head = holds.by.fits.head.head; spelled = sym same }) (record { head = is; spelled = refl }) in
    subst (λ (t : Head). HoldsBy g t s x) one holds.by
