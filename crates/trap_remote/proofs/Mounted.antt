-- A replica that was mounted: what it is, and that disk 17 holds one image.
use Rattle.std.proofs.Common.{◌≡◌, ◌≢◌, ◌⊎◌, inl, inr, ⊎_elim, ℕ, suc, ◌<◌, List, [], ◌∷◌, length, Bool, true, false, IsTrue, refl, sym, ap, ap₂, subst, ◌∙◌, arith}
use Rattle.std.proofs.lemmas.Bool.{cases_eq}
use Rattle.trap_bank.specs.Disks.{View}
use Rattle.trap_bank.specs.Steps.{OnlyReads}
use Rattle.trap_bank.proofs.Moves.{read_is_left}
use Rattle.trap_format.specs.declared.shape.Shape.{Shape}
use Rattle.trap_model.specs.Image.{block_of}
use Rattle.trap_replica.specs.Mounted.{MountedReplica}
use Rattle.trap_replica.specs.Mounting.{MountsReplica}
use Rattle.trap_replica.specs.OnDisk.{ReplicaHolds}
use Rattle.trap_replica.specs.Standing.{Mirrors}
use Rattle.trap_replica.specs.declared.store.Store.{Store}
use Rattle.trap_replica.proofs.Exported.{mirrors_untold}
use Rattle.trap_remote.specs.Found.{FindsReplica}
use Rattle.trap_remote.specs.declared.outcome.ReplicaEnd.{ReplicaEnd}
use Rattle.trap_remote.specs.declared.outcome.ReplicaEnd.TheVariants.{Done, Memory, Port, BadGeometry, NoReplica, NotMade, NotApplied, NotExported}

-- whether there was no memory
pub is_memory : (ended : ReplicaEnd) → (ended ≡ Memory) ⊎ (ended ≢ Memory)
is_memory Memory = inl refl
is_memory Done = inr (λ is. cc)
is_memory Port = inr (λ is. cc)
is_memory (BadGeometry field) = inr (λ is. cc)
is_memory (NoReplica why) = inr (λ is. cc)
is_memory (NotMade why) = inr (λ is. cc)
is_memory (NotApplied why) = inr (λ is. cc)
is_memory NotExported = inr (λ is. cc)

-- images of the same blocks are one
blocks_same : (i j : List (List ℕ)) → length i ≡ length j → ((b : ℕ) → b < length i → block_of i b ≡ block_of j b) → i ≡ j
blocks_same [] [] long same = refl
blocks_same [] (y ∷ j) long same = absurd (omega (arith, long))
blocks_same (x ∷ i) [] long same = absurd (omega (arith, long))
blocks_same (x ∷ i) (y ∷ j) long same =
    ap₂ (λ (b : List ℕ) (l : List (List ℕ)). b ∷ l) (same 0 (omega arith)) (blocks_same i j (omega (arith, long)) (λ b less. same (suc b) (omega (arith, less))))

-- disk 17 holds one image
image_one : (p : Store) (v : View) (i j : List (List ℕ)) → IsTrue v.tells → Mirrors p v i → Mirrors p v j → i ≡ j
image_one p v i j told one other =
    let a = one.holds v.now (read_is_left v told) in
    let b = other.holds v.now (read_is_left v told) in
    blocks_same i j (a.long ∙ sym b.long) (λ k less. ⊎_elim
    (λ (is : k ≡ p.block). ap (block_of i) is ∙ sym (one.contents told) ∙ other.contents told ∙ ap (block_of j) (sym is))
    (λ (apart : k ≢ p.block). sym (a.others k (omega (arith, less, a.long)) apart) ∙ b.others k (omega (arith, less, a.long)) apart)
    (cases_eq k p.block))

-- the replica holds this image, with this number and time
pub record IsReplica (r : MountedReplica) (own : List (List ℕ)) (s : Shape) (number time : ℕ) (image : List (List ℕ)) : Type 0 where
  pub shape : r.store.shape ≡ s
  pub number_ : r.store.number ≡ number
  pub time_ : r.store.time ≡ time
  pub image_ : own ≡ image

-- the image that it mirrors, and no other; where the bank tells nothing, any
pub record OneImage (r : MountedReplica) (a m : View) : Type 0 where
  pub own : List (List ℕ)
  pub mirrors : Mirrors r.store m own
  pub only : (s : Shape) (number time : ℕ) (image : List (List ℕ)) → IsTrue a.tells → ReplicaHolds s number time image a.now.disks → IsReplica r own s number time image

module _ (r : MountedReplica) (a m : View) (mounts : MountsReplica r a m) (reads : OnlyReads a m) where
  pub told_mounted : IsTrue a.tells → IsTrue m.tells
  told_mounted told = subst IsTrue (sym reads.moves.tells) told

  pub finds_replica : FindsReplica r.store.shape a
  finds_replica = record { size = mounts.exact; header = λ told. (mounts.opens.found told).has }

  pub one_image : OneImage r a m
  one_image = by_tells a.tells refl
    where
      told_image : IsTrue a.tells → OneImage r a m
      told_image told =
          let here = mounts.holds told in
          let known = mounts.opens.knows r.store.shape r.store.number r.store.time here.0 told here.1 in
          record {
            own = here.0;
            mirrors = known.mirrors;
            only = λ s number time image told holds.
                let also = mounts.opens.knows s number time image told holds in
                record { shape = also.shape; number_ = also.number; time_ = also.time; image_ = image_one r.store m here.0 image (told_mounted told) known.mirrors also.mirrors };
          }

      untold_image : (IsTrue a.tells → ⊥) → OneImage r a m
      untold_image not = record {
        own = [];
        mirrors = mirrors_untold r.store m [] (λ told. not (subst IsTrue reads.moves.tells told));
        only = λ s number time image told holds. absurd (not told);
      }

      by_tells : (b : Bool) → a.tells ≡ b → OneImage r a m
      by_tells true is = told_image is
      by_tells false is = untold_image (λ told. let both : false ≡ true = sym is ∙ told in cc)
