-- Each block splits into segments: by recursion over the block, one byte in front of a split block.
use Rattle.std.proofs.Common.{◌≡◌, ℕ, zero, suc, ◌+◌, ◌-◌, ◌<◌, ◌≤◌, List, [], ◌∷◌, ◌++◌, length, get_or, replicate, flat_map, refl, sym, ◌∙◌, ap, subst, inl, inr, ⊎_elim, arith, length-append, get_or-append-add}
use Rattle.std.proofs.lemmas.Bool.{cases_lt}
use Rattle.std.proofs.lemmas.List.{length-replicate}
use Rattle.trap_model.specs.ZeroRun.{Segment, spelling, contents, segment_size, AreZeros, IsLiteral, KeepsRules, Walks, ZeroRun}
use Rattle.trap_model.proofs.ZeroRuns.{literal_some, segment}

-- segments that stand for the bytes
pub record Split (bytes : List ℕ) : Type 0 where
  pub segments : List Segment
  pub rules : Walks 0 (length bytes) segments 0
  pub meant : bytes ≡ flat_map contents segments

-- one nonzero byte is a literal
pub one-literal : (n : ℕ) → IsLiteral (suc n ∷ [])
one-literal n = record {
  begins = omega arith;
  ends = omega arith;
  apart = λ at zeros. let inside = zeros.inside in omega arith;
}

-- a nonzero byte, zero bytes and a literal
abbrev pub joined : ℕ → ℕ → List ℕ → List ℕ
joined n zeros literal = suc n ∷ (replicate zeros 0 ++ literal)

pub length-joined : (n zeros : ℕ) (literal : List ℕ) → length (joined n zeros literal) ≡ suc (zeros + length literal)
length-joined n zeros literal =
    let front = length-replicate {A = ℕ} zeros 0 in
    let len = length-append (replicate {A = ℕ} zeros 0) literal in
    omega arith

joined-at : (n zeros : ℕ) (literal : List ℕ) (k : ℕ) → get_or (joined n zeros literal) (suc (zeros + k)) 0 ≡ get_or literal k 0
joined-at n zeros literal k =
    ap (λ (m : ℕ). get_or (replicate {A = ℕ} zeros 0 ++ literal) (m + k) 0) (sym (length-replicate {A = ℕ} zeros 0))
    ∙ get_or-append-add (replicate {A = ℕ} zeros 0) literal k 0

-- of fewer than four zero bytes in between nothing is seen
joined-apart : (n zeros : ℕ) (literal : List ℕ) → zeros < 4 → IsLiteral literal → (at : ℕ) → ¬ AreZeros (joined n zeros literal) at 4
joined-apart n gap literal few is zero run =
    let first : suc n ≡ 0 = run.zeros 0 (omega arith) in
    omega arith
joined-apart n zeros literal few is (suc p) run = ⊎_elim
    (λ (behind : zeros < p). is.apart (p - zeros) (record {
      inside = (let inside = run.inside in let len = length-joined n zeros literal in omega arith);
      zeros = λ k below.
          let at : suc p + k ≡ suc (zeros + (p - zeros + k)) = omega arith in
          sym (joined-at n zeros literal (p - zeros + k)) ∙ ap (λ (i : ℕ). get_or (joined n zeros literal) i 0) (sym at) ∙ run.zeros k below;
    }))
    (λ (within : p ≤ zeros).
    let begins : 0 < get_or literal 0 0 = is.begins in
    let at : suc p + (zeros - p) ≡ suc (zeros + 0) = omega arith in
    let here : get_or literal 0 0 ≡ 0 =
    sym (joined-at n zeros literal 0) ∙ ap (λ (i : ℕ). get_or (joined n zeros literal) i 0) (sym at) ∙ run.zeros (zeros - p) (omega arith) in
    absurd (omega arith))
    (cases_lt zeros p)

-- a nonzero byte, fewer than four zero bytes and a literal are a literal
pub joined-literal : (n zeros : ℕ) (literal : List ℕ) → zeros < 4 → IsLiteral literal → IsLiteral (joined n zeros literal)
joined-literal n zeros literal few is = record {
  begins = omega arith;
  ends =
      (let some = literal_some literal is in
      let len = length-joined n zeros literal in
      let at : suc (zeros + (length literal - 1)) ≡ length (joined n zeros literal) - 1 = omega arith in
      let ends = is.ends in
      subst (λ (i : ℕ). 0 < get_or (joined n zeros literal) i 0) at (subst (λ (b : ℕ). 0 < b) (sym (joined-at n zeros literal (length literal - 1))) ends));
  apart = joined-apart n zeros literal few is;
}

-- a byte that is a literal, in front of a split block
alone : (n : ℕ) (xs : List ℕ) (a : List Segment) → Walks 4 (length xs) a 0 → xs ≡ flat_map contents a → Split (suc n ∷ xs)
alone n xs a walk meant = record {
  segments = segment 0 (suc n ∷ []) ∷ a;
  rules = (
    inl (record { zeros = omega arith; literal = one-literal n; within = omega arith }),
    subst (λ (m : ℕ). Walks 4 m a 0) (let back : length xs ≡ suc (length xs) - (0 + 1) = omega arith in back) walk,
  );
  meant = ap (λ (l : List ℕ). suc n ∷ l) meant;
}

-- a zero byte in front of a split block
zero_first : (xs : List ℕ) (a : List Segment) → Walks 0 (length xs) a 0 → xs ≡ flat_map contents a → Split (0 ∷ xs)
zero_first xs [] walk meant = record {
  segments = segment 1 [] ∷ [];
  rules = (
    inr (record { some = omega arith; empty = refl; whole = (let none : 0 ≡ length xs = walk in omega arith) }),
    (let none : 0 ≡ length xs = walk in omega arith),
  );
  meant = ap (λ (l : List ℕ). 0 ∷ l) meant;
}
zero_first xs (s ∷ a) (follows, walk) meant = record {
  segments = segment (suc s.zeros) s.literal ∷ a;
  rules = (
    longer follows,
    subst (λ (m : ℕ). Walks 4 m a 0) (let same : length xs - segment_size s ≡ suc (length xs) - (suc s.zeros + length s.literal) = omega arith in same) walk,
  );
  meant = ap (λ (l : List ℕ). 0 ∷ l) meant;
}
  where
    longer : KeepsRules 0 (length xs) s → KeepsRules 0 (suc (length xs)) (segment (suc s.zeros) s.literal)
    longer (inl has) = inl (record { zeros = omega arith; literal = has.literal; within = (let within = has.within in omega arith) })
    longer (inr rest) = inr (record { some = omega arith; empty = rest.empty; whole = (let whole = rest.whole in omega arith) })

-- a nonzero byte in front of a split block
literal_first : (n : ℕ) (xs : List ℕ) (a : List Segment) → Walks 0 (length xs) a 0 → xs ≡ flat_map contents a → Split (suc n ∷ xs)
literal_first n xs [] walk meant = alone n xs [] walk meant
literal_first n xs (s ∷ a) (inr rest, walk) meant = alone n xs (s ∷ a) (inr rest, walk) meant
literal_first n xs (s ∷ a) (inl has, walk) meant = ⊎_elim
    (λ (few : s.zeros < 4). record {
      segments = segment 0 (joined n s.zeros s.literal) ∷ a;
      rules = (
        inl (record {
          zeros = omega arith;
          literal = joined-literal n s.zeros s.literal few has.literal;
          within = (let within = has.within in let len = length-joined n s.zeros s.literal in omega arith);
        }),
        subst (λ (m : ℕ). Walks 4 m a 0)
            (let len = length-joined n s.zeros s.literal in
            let same : length xs - segment_size s ≡ suc (length xs) - (0 + length (joined n s.zeros s.literal)) = omega arith in same)
            walk,
      );
      meant = ap (λ (l : List ℕ). suc n ∷ l) meant;
    })
    (λ (enough : 4 ≤ s.zeros). alone n xs (s ∷ a) (inl (record { zeros = enough; literal = has.literal; within = has.within }), walk) meant)
    (cases_lt s.zeros 4)

pub split_of : (bytes : List ℕ) → Split bytes
split_of [] = record { segments = []; rules = refl; meant = refl }
split_of (zero ∷ xs) = let s = split_of xs in zero_first xs s.segments s.rules s.meant
split_of (suc n ∷ xs) = let s = split_of xs in literal_first n xs s.segments s.rules s.meant

-- each block has a spelling
pub spelling-some : (block : List ℕ) → (bytes : List ℕ) × ZeroRun block bytes
spelling-some block =
    let s = split_of block in
    (flat_map spelling s.segments, record { segments = s.segments; rules = s.rules; spelled = refl; meant = s.meant })
