-- The exclusive-or over members: one member's block is the exclusive-or of the others, and a change of one changes it by old xor new.
use Rattle.std.proofs.Common.{◌≡◌, ◌≢◌, ℕ, zero, suc, ◌<◌, ◌≤◌, List, length, refl, ap, sym, ◌∙◌, arith, inl, inr, eq-eqb}
use Rattle.std.proofs.lemmas.List.{length-replicate}
use Rattle.std.proofs.lemmas.Bool.{cases_eq, ne_eqb}
use Rattle.trap_block.specs.Xor.{xor, zeros, xor_over, xor_but, HaveSize}
use Rattle.trap_block.proofs.XorLemmas.{length-xor, xor-comm, xor-assoc, xor-self, xor-zeros}

-- a block xored twice is gone
pub xor_twice : (size : ℕ) (xs ys : List ℕ) → length xs ≡ size → length ys ≡ size → xor xs (xor xs ys) ≡ ys
xor_twice size xs ys e f =
    let none : xor xs xs ≡ zeros size = xor-self xs ∙ ap zeros e in
    sym (xor-assoc xs xs ys) ∙ ap (λ b. xor b ys) none ∙ xor-comm (zeros size) ys ∙ xor-zeros ys size f

-- the last two change places
pub xor_swap : (xs ys zs : List ℕ) → xor (xor xs ys) zs ≡ xor (xor xs zs) ys
xor_swap xs ys zs = xor-assoc xs ys zs ∙ ap (λ b. xor xs b) (xor-comm ys zs) ∙ sym (xor-assoc xs zs ys)

-- ---- one member more
pub xor_but_here : (size one n : ℕ) (block_of : ℕ → List ℕ) → n ≡ one → xor_but size one block_of (suc n) ≡ xor_but size one block_of n
xor_but_here size one n block_of e = rw (eq-eqb n one e) refl

pub xor_but_there : (size one n : ℕ) (block_of : ℕ → List ℕ) → (n ≡ one → ⊥) → xor_but size one block_of (suc n) ≡ xor (xor_but size one block_of n) (block_of n)
xor_but_there size one n block_of h = rw (ne_eqb n one h) refl

-- ---- sizes

-- each member below n but one has a block of this size
abbrev pub OthersHaveSize : ℕ → ℕ → (ℕ → List ℕ) → ℕ → Type 0
OthersHaveSize size one block_of n = (m : ℕ) → m < n → m ≢ one → length (block_of m) ≡ size

pub length-xor_over : (size n : ℕ) (block_of : ℕ → List ℕ) → HaveSize size block_of n → length (xor_over size block_of n) ≡ size
length-xor_over size zero block_of sized = length-replicate size 0
length-xor_over size (suc n) block_of sized =
    let front : length (xor_over size block_of n) ≡ size = length-xor_over size n block_of (λ m below. sized m (omega arith)) in
    let here : length (block_of n) ≡ size = sized n (omega arith) in
    length-xor (xor_over size block_of n) (block_of n) (omega arith) ∙ front

pub length-xor_but : (size one n : ℕ) (block_of : ℕ → List ℕ) → OthersHaveSize size one block_of n → length (xor_but size one block_of n) ≡ size
length-xor_but size one zero block_of sized = length-replicate size 0
length-xor_but size one (suc n) block_of sized =
    let front : length (xor_but size one block_of n) ≡ size = length-xor_but size one n block_of (λ m below. sized m (omega arith)) in
    elim (cases_eq n one) [
      | inl e ↦ ap length (xor_but_here size one n block_of e) ∙ front
      | inr h ↦
          let here : length (block_of n) ≡ size = sized n (omega arith) h in
          ap length (xor_but_there size one n block_of h) ∙ length-xor (xor_but size one block_of n) (block_of n) (omega arith) ∙ front
    ]

-- ---- members that are alike
pub xor_but_same : (size one n : ℕ) (f g : ℕ → List ℕ) → ((m : ℕ) → m < n → m ≢ one → f m ≡ g m) → xor_but size one f n ≡ xor_but size one g n
xor_but_same size one zero f g alike = refl
xor_but_same size one (suc n) f g alike =
    let front : xor_but size one f n ≡ xor_but size one g n = xor_but_same size one n f g (λ m below. alike m (omega arith)) in
    elim (cases_eq n one) [
      | inl e ↦ xor_but_here size one n f e ∙ front ∙ sym (xor_but_here size one n g e)
      | inr h ↦
          let here : f n ≡ g n = alike n (omega arith) h in
          xor_but_there size one n f h ∙ ap (λ b. xor b (f n)) front ∙ ap (λ b. xor (xor_but size one g n) b) here ∙ sym (xor_but_there size one n g h)
    ]

-- ---- all of the members, from one and the others
pub xor_but_past : (size one n : ℕ) (block_of : ℕ → List ℕ) → n ≤ one → xor_but size one block_of n ≡ xor_over size block_of n
xor_but_past size one zero block_of past = refl
xor_but_past size one (suc n) block_of past =
    let apart : n ≡ one → ⊥ = λ e. absurd (omega arith) in
    xor_but_there size one n block_of apart ∙ ap (λ b. xor b (block_of n)) (xor_but_past size one n block_of (omega arith))

pub xor_over-split : (size one n : ℕ) (block_of : ℕ → List ℕ) → one < n → xor_over size block_of n ≡ xor (xor_but size one block_of n) (block_of one)
xor_over-split size one zero block_of below = absurd (omega arith)
xor_over-split size one (suc n) block_of below =
    elim (cases_eq n one) [
      | inl e ↦
          let same : block_of n ≡ block_of one = ap block_of e in
          let past : xor_but size one block_of n ≡ xor_over size block_of n = xor_but_past size one n block_of (omega arith) in
          let here : xor_but size one block_of (suc n) ≡ xor_but size one block_of n = xor_but_here size one n block_of e in
          cc
      | inr h ↦
          let front : xor_over size block_of n ≡ xor (xor_but size one block_of n) (block_of one) = xor_over-split size one n block_of (omega arith) in
          let there : xor_but size one block_of (suc n) ≡ xor (xor_but size one block_of n) (block_of n) = xor_but_there size one n block_of h in
          let turned = xor_swap (xor_but size one block_of n) (block_of one) (block_of n) in
          cc
    ]

-- ---- the laws of a row
-- where one member holds the exclusive-or of the others, the row's exclusive-or is zero
pub xor_over_is_zero : (size one n : ℕ) (block_of : ℕ → List ℕ) → HaveSize size block_of n → one < n → block_of one ≡ xor_but size one block_of n → xor_over size block_of n ≡ zeros size
xor_over_is_zero size one n block_of sized below parity =
    let split = xor_over-split size one n block_of below in
    let none : xor (block_of one) (block_of one) ≡ zeros (length (block_of one)) = xor-self (block_of one) in
    let long : zeros (length (block_of one)) ≡ zeros size = ap zeros (sized one below) in
    cc

-- where the row's exclusive-or is zero, any one member holds the exclusive-or of the others
pub one_from_others : (size one n : ℕ) (block_of : ℕ → List ℕ) → HaveSize size block_of n → one < n → xor_over size block_of n ≡ zeros size → block_of one ≡ xor_but size one block_of n
one_from_others size one n block_of sized below none =
    let others = xor_but size one block_of n in
    let long : length (xor_but size one block_of n) ≡ size = length-xor_but size one n block_of (λ m less k. sized m less) in
    let split : xor_over size block_of n ≡ xor (xor_but size one block_of n) (block_of one) = xor_over-split size one n block_of below in
    sym (xor_twice size (xor_but size one block_of n) (block_of one) long (sized one below))
    ∙ ap (λ b. xor (xor_but size one block_of n) b) (sym split ∙ none)
    ∙ xor-zeros (xor_but size one block_of n) size long

-- a change of one other member changes the exclusive-or by old xor new
pub xor_but_changed : (size one n j : ℕ) (f g : ℕ → List ℕ) → length (f j) ≡ size → length (g j) ≡ size → j < n → j ≢ one
    → ((m : ℕ) → m < n → m ≢ one → m ≢ j → g m ≡ f m) → xor_but size one g n ≡ xor (xor_but size one f n) (xor (f j) (g j))
xor_but_changed size one zero j f g old_size new_size below apart alike = absurd (omega arith)
xor_but_changed size one (suc n) j f g old_size new_size below apart alike =
    elim (cases_eq n one) [
      | inl e ↦
          let inside : j < n = elim (cases_eq j n) [ inl e' ↦ absurd (apart (e' ∙ e)) | inr h' ↦ omega arith ] in
          xor_but_here size one n g e
          ∙ xor_but_changed size one n j f g old_size new_size inside apart (λ m below. alike m (omega arith))
          ∙ ap (λ b. xor b (xor (f j) (g j))) (sym (xor_but_here size one n f e))
      | inr h ↦ elim (cases_eq j n) [
        | inl e' ↦
            let front : xor_but size one g n ≡ xor_but size one f n = xor_but_same size one n g f (λ m less k. alike m (omega arith) k (omega arith)) in
            let f_here : f n ≡ f j = ap f (sym e') in
            let g_here : g n ≡ g j = ap g (sym e') in
            let twice : xor (f j) (xor (f j) (g j)) ≡ g j = xor_twice size (f j) (g j) old_size new_size in
            let grouped = xor-assoc (xor_but size one f n) (f j) (xor (f j) (g j)) in
            let f_more = xor_but_there size one n f h in
            let g_more = xor_but_there size one n g h in
            cc
        | inr h' ↦
            let here : g n ≡ f n = alike n (omega arith) h (λ e. h' (sym e)) in
            let front : xor_but size one g n ≡ xor (xor_but size one f n) (xor (f j) (g j)) =
            xor_but_changed size one n j f g old_size new_size (omega arith) apart (λ m below. alike m (omega arith)) in
            let turned = xor_swap (xor_but size one f n) (xor (f j) (g j)) (f n) in
            let f_more = xor_but_there size one n f h in
            let g_more = xor_but_there size one n g h in
            cc
      ]
    ]
