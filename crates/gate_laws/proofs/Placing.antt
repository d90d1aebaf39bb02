-- Code stands where an image has its bytes, for an exact reader of instructions.
use Rattle.std.proofs.Common.{◌≡◌, ℕ, zero, suc, ◌+◌, ◌-◌, ◌<◌, ◌≤◌, min, true, ◌&&◌, ◌==◌, List, [], ◌∷◌, ◌++◌, length, take, refl, arith, ap, ◌∙◌, sym, subst}
use Rattle.std.proofs.lemmas.Bool.{and_parts}
use Rattle.std.proofs.lemmas.Bool.Decides.{nat_tests}
use Rattle.mx_base.specs.Memory.{Bytes, list_at}
use Rattle.mx_base.specs.Regions.{instrumented_code, is_in}
use Rattle.mx_base.proofs.MemoryLemmas.{list_at-same, length-list_at}
use Rattle.x86_forms.specs.declared.instr.Instr.{Instr}
use Rattle.x86_forms.specs.Spelling.{spelling}
use Rattle.x86_forms.specs.Validity.{valid_of}
use Rattle.x86_forms.proofs.ShortCode.{spelling-short}
use Rattle.obj_file.specs.Machine.{Is, IsReader, State, reading_at, fetched_size}
use Rattle.obj_file.specs.Stored.{Stored}
use Rattle.obj_file.proofs.StoredBytes.{bytes-list_at}
use Rattle.call_gates.specs.Gates.{Code, size_of_code}
use Rattle.legacy_calls.specs.Legacy.{Linkage, ground}
use Rattle.gate_laws.specs.Placed.{HasCode, StandsAt, IsPlaced}
use Rattle.call_gates.specs.Gates.{bytes_of_code, is_sound}

take-list_at : (n k : ℕ) (m : Bytes) (a : ℕ) → k ≤ n → take k (list_at n m a) ≡ list_at k m a
unfolding list_at
take-list_at zero zero m a h = refl
take-list_at zero (suc k) m a h = absurd (omega arith)
take-list_at (suc n) zero m a h = refl
take-list_at (suc n) (suc k) m a h = ap (λ (l : List ℕ). m a ∷ l) (take-list_at n k m (a + 1) (omega arith))

list_at-append : (n k : ℕ) (m : Bytes) (a : ℕ) → list_at (n + k) m a ≡ list_at n m a ++ list_at k m (a + n)
unfolding list_at
list_at-append zero k m a = let e : 0 + k ≡ k = omega arith in let f : a + 0 ≡ a = omega arith in rw (e, f) refl
list_at-append (suc n) k m a =
    let e : suc n + k ≡ suc (n + k) = omega arith in
    let f : a + suc n ≡ a + 1 + n = omega arith in
    ap (λ (j : ℕ). list_at j m a) e ∙ ap (λ (l : List ℕ). m a ∷ l) (list_at-append n k m (a + 1)) ∙ ap (λ (x : ℕ). m a ∷ (list_at n m (a + 1) ++ list_at k m x)) (sym f)

split : (xs us ys vs : List ℕ) → length xs ≡ length us → xs ++ ys ≡ us ++ vs → (xs ≡ us) × (ys ≡ vs)
split [] [] ys vs e h = (refl, h)
split [] (u ∷ us) ys vs e h = absurd (omega arith)
split (x ∷ xs) [] ys vs e h = absurd (omega arith)
split (x ∷ xs) (u ∷ us) ys vs e h =
    let first : x ≡ u = cc in
    let rest : xs ++ ys ≡ us ++ vs = cc in
    let both = split xs us ys vs (omega arith) rest in
    ((λ i. first i ∷ both.0 i), both.1)

fetched : (a : ℕ) → is_in instrumented_code a ≡ true → fetched_size a ≡ min (0x1100_0000 - a) 15
fetched a inside = rw inside refl

code_inside : (at size x : ℕ) → is_in instrumented_code at ≡ true → at + size ≤ 0x1100_0000 → at ≤ x → x < at + size → is_in instrumented_code x ≡ true
code_inside at size x inside within from to = grind (arith, nat_tests)

code_place : (at : ℕ) → 0x0100_0000 ≤ at → at < 0x1100_0000 → is_in instrumented_code at ≡ true
code_place at low high = grind (arith, nat_tests)

module _ (k : Linkage) (reader : IsReader k.reads) (image : Bytes) where
  reads_there : (at : ℕ) (i : Instr) (size : ℕ) → is_in instrumented_code at ≡ true → at + size ≤ 0x1100_0000 → valid_of i ≡ true → length (spelling i) ≡ size → list_at size image at ≡ spelling i → length (spelling i) ≤ 15
      → (s : State Stored) → s.processor.rip ≡ at → HasCode image s.memory → reading_at (ground k) s ≡ Is i size
  unfolding reading_at
  reads_there at i size inside within valid sized bytes most s is code =
      let here : is_in instrumented_code s.processor.rip ≡ true = subst (λ (a : ℕ). is_in instrumented_code a ≡ true) (sym is) inside in
      let f = fetched s.processor.rip here in
      let enough : size ≤ fetched_size s.processor.rip = rw f (omega arith) in
      let all = list_at (fetched_size s.processor.rip) s.memory.bytes s.processor.rip in
      let long : size ≤ length all = rw (length-list_at (fetched_size s.processor.rip) s.memory.bytes s.processor.rip) enough in
      let same : take size all ≡ spelling i = take-list_at (fetched_size s.processor.rip) size s.memory.bytes s.processor.rip enough
      ∙ ap (list_at size s.memory.bytes) is ∙ list_at-same size s.memory.bytes image at (λ x from to. code.code x (code_inside at size x inside within from to)) ∙ bytes in
      (reader.whole all i size (bytes-list_at (fetched_size s.processor.rip) s.memory.bytes s.processor.rip code.each_byte)).1 (long, record { valid = valid; bytes = same })

  pub stands_by_bytes : (at : ℕ) (i : Instr) (size : ℕ) → is_in instrumented_code at ≡ true → at + size ≤ 0x1100_0000 → valid_of i ≡ true → length (spelling i) ≡ size → list_at size image at ≡ spelling i → StandsAt k image at i size
  stands_by_bytes at i size inside within valid sized bytes =
      let short = spelling-short i valid in
      let most = short.most in
      record { inside = inside; small = omega arith; reads = reads_there at i size inside within valid sized bytes most }

  -- what the linker has to give: the bytes of sound code at its place
  pub placed_by_bytes : (code : Code) (at : ℕ) → is_sound code ≡ true → 0x0100_0000 ≤ at → at + size_of_code code ≤ 0x1100_0000 → list_at (size_of_code code) image at ≡ bytes_of_code code → IsPlaced k image at code
  placed_by_bytes [] at sound low high bytes = tt
  placed_by_bytes (x ∷ rest) at sound low high bytes =
      let parts = and_parts (valid_of x.0 && (length (spelling x.0) == x.1)) (is_sound rest) sound in
      let mine = and_parts (valid_of x.0) (length (spelling x.0) == x.1) parts.0 in
      let size : length (spelling x.0) ≡ x.1 = grind (arith, nat_tests, mine.1) in
      let some = (spelling-short x.0 mine.0).some in
      let both = split (list_at x.1 image at) (spelling x.0) (list_at (size_of_code rest) image (at + x.1)) (bytes_of_code rest) (length-list_at x.1 image at ∙ sym size) (sym (list_at-append x.1 (size_of_code rest) image at) ∙ bytes) in (
        stands_by_bytes at x.0 x.1 (code_place at low (omega arith)) (omega arith) mine.0 size both.0,
        placed_by_bytes rest (at + x.1) parts.1 (omega arith) (omega arith) both.1,
      )
