-- The test of two heads.
use Rattle.std.proofs.Common.{◌≡◌, ◌≢◌, ℕ, Option, Some, None, Bool, true, false, ◌&&◌, eqb, refl, subst, sym, ◌∙◌, arith}
use Rattle.std.proofs.lemmas.Bool.Decides.{nat_tests}
use Rattle.std.specs.Option.{option_eq}
use Rattle.trap_format.specs.declared.head.Head.{Head}

-- each field is tested
abbrev pub head_test : Head → Head → Bool
head_test h k = eqb h.version k.version && (option_eq eqb h.lost k.lost && (eqb h.rebuilt k.rebuilt && (eqb h.first k.first && (eqb h.base_time k.base_time
    && (eqb h.first_off k.first_off && (eqb h.last k.last && (eqb h.end_off k.end_off && (eqb h.drained k.drained && eqb h.last_time k.last_time))))))))

both : (a b : Bool) → a ≡ true → b ≡ true → (a && b) ≡ true
both true b first second = second
both false b first second = cc

number_same : (n : ℕ) → eqb n n ≡ true
number_same n = grind (arith, nat_tests)

option_same_test : (o : Option ℕ) → option_eq eqb o o ≡ true
option_same_test None = refl
option_same_test (Some n) = number_same n

-- a head is the same as itself
head_same_test : (h : Head) → head_test h h ≡ true
head_same_test h = both _ _ (number_same h.version) (both _ _ (option_same_test h.lost) (both _ _ (number_same h.rebuilt) (both _ _ (number_same h.first) (both _ _ (number_same h.base_time)
    (both _ _ (number_same h.first_off) (both _ _ (number_same h.last) (both _ _ (number_same h.end_off) (both _ _ (number_same h.drained) (number_same h.last_time)))))))))

-- two heads of which the test is false differ
pub heads_differ : (h k : Head) (test : Bool) → test ≡ head_test h k → test ≡ false → h ≢ k
heads_differ h k test is failed same = two (sym (subst (λ (l : Head). head_test h l ≡ true) same (head_same_test h)) ∙ sym is ∙ failed)
  where
    two : true ≡ false → ⊥
    two e = cc
