-- Bytes of pages whose frames a one-to-one map names.
use Rattle.std.proofs.Common.{◌≡◌, ◌⊎◌, ℕ, zero, suc, ◌+◌, ◌-◌, ◌*◌, ◌/◌, ◌%◌, ◌<◌, ◌≤◌, Option, None, Some, List, [], ◌∷◌, ◌++◌, length, get_or, take, drop, replicate, refl, sym, ap, ◌∙◌, subst, arith, inl, inr, length-append, length-take, length-drop}
use Rattle.std.proofs.lemmas.Bool.{cases_lt}
use Rattle.std.proofs.lemmas.List.{take-append-drop, take-take, drop-take, get_or-take, get_or-drop, get_or_append_left, get_or-append_right, drop_more}
use Rattle.mx_base.specs.Memory.{Bytes, with_byte, list_at, with_list}
use Rattle.mx_base.proofs.MemoryLemmas.{with_list_below, with_list_above, with_byte_here}
use Rattle.paged_memory.specs.Frames.{byte_in, byte_under, IsOneToOne, put_at}

-- ---- lists of bytes in a memory

pub list_at-none : (m : Bytes) (a : ℕ) → list_at 0 m a ≡ []
unfolding list_at
list_at-none m a = refl

pub list_at-more : (n : ℕ) (m : Bytes) (a : ℕ) → list_at (suc n) m a ≡ m a ∷ list_at n m (a + 1)
unfolding list_at
list_at-more n m a = refl

pub with_list-none : (m : Bytes) (a : ℕ) → with_list m a [] ≡ m
unfolding with_list
with_list-none m a = refl

pub with_list-more : (m : Bytes) (a b : ℕ) (bs : List ℕ) → with_list m a (b ∷ bs) ≡ with_list (with_byte m a b) (a + 1) bs
unfolding with_list
with_list-more m a b bs = refl

pub length-list_at : (n : ℕ) (m : Bytes) (a : ℕ) → length (list_at n m a) ≡ n
length-list_at zero m a = ap length (list_at-none m a)
length-list_at (suc n) m a = let rest = length-list_at n m (a + 1) in ap length (list_at-more n m a) ∙ omega (arith, rest)

pub list_at-add : (n k : ℕ) (m : Bytes) (a : ℕ) → list_at (n + k) m a ≡ list_at n m a ++ list_at k m (a + n)
list_at-add zero k m a =
    let none : 0 + k ≡ k = omega arith in
    let here : a + 0 ≡ a = omega arith in
    rw (none, here, list_at-none m a) refl
list_at-add (suc n) k m a =
    let more : suc n + k ≡ suc (n + k) = omega arith in
    let there : a + 1 + n ≡ a + suc n = omega arith in
    rw (more, list_at-more (n + k) m a, list_at-more n m a) (ap (λ t. m a ∷ t) (list_at-add n k m (a + 1) ∙ ap (λ x. list_at n m (a + 1) ++ list_at k m x) there))

pub with_list-append : (bs cs : List ℕ) (m : Bytes) (a : ℕ) → with_list m a (bs ++ cs) ≡ with_list (with_list m a bs) (a + length bs) cs
with_list-append [] cs m a =
    let here : a + 0 ≡ a = omega arith in
    rw (here, with_list-none m a) refl
with_list-append (b ∷ bs) cs m a =
    let there : a + 1 + length bs ≡ a + length (b ∷ bs) = omega arith in
    with_list-more m a b (bs ++ cs) ∙ with_list-append bs cs (with_byte m a b) (a + 1)
    ∙ ap (λ x. with_list (with_list (with_byte m a b) (a + 1) bs) x cs) there
    ∙ ap (λ w. with_list w (a + length (b ∷ bs)) cs) (sym (with_list-more m a b bs))

-- bytes written up to a place, and a piece more
pub with_list_piece : (bytes : List ℕ) (at k : ℕ) (m : Bytes) (a : ℕ) → at + k ≤ length bytes → with_list m a (take (at + k) bytes) ≡ with_list (with_list m a (take at bytes)) (a + at) (take (at + k - at) (drop at bytes))
with_list_piece bytes at k m a within =
    let long : length (take at bytes) ≡ at = simp length-take (omega arith) in
    let count : at + k - at ≡ k = omega arith in
    let parts : take (at + k) bytes ≡ take at bytes ++ take k (drop at bytes) =
    sym (take-append-drop at (take (at + k) bytes)) ∙ (λ i. take-take at (at + k) bytes (omega arith) i ++ drop-take at k bytes i) in
    ap (with_list m a) parts ∙ with_list-append (take at bytes) (take k (drop at bytes)) m a
    ∙ (λ i. with_list (with_list m a (take at bytes)) (a + long i) (take (sym count i) (drop at bytes)))

pub with_list_within : (bs : List ℕ) (m : Bytes) (a k : ℕ) → k < length bs → with_list m a bs (a + k) ≡ get_or bs k 0
with_list_within [] m a k within = absurd (omega arith)
with_list_within (b ∷ bs) m a zero within =
    let here : a + 0 ≡ a = omega arith in
    rw (with_list-more m a b bs, here) (with_list_below bs (with_byte m a b) (a + 1) a (omega arith) ∙ with_byte_here m a b)
with_list_within (b ∷ bs) m a (suc k) within =
    let there : a + suc k ≡ a + 1 + k = omega arith in
    rw (with_list-more m a b bs, there) (with_list_within bs (with_byte m a b) (a + 1) k (omega arith))

-- ---- bytes that are read

pub list_of_frame : (n : ℕ) (frame_at : ℕ → Option ℕ) (frames : List ℕ) (a f : ℕ) → a % 4096 + n ≤ 4096 → frame_at (a / 4096) ≡ Some f → f * 4096 + 4096 ≤ length frames
    → list_at n (byte_under frame_at frames) a ≡ take n (drop (f * 4096 + a % 4096) frames)
list_of_frame zero frame_at frames a f inside there room = list_at-none (byte_under frame_at frames) a
list_of_frame (suc zero) frame_at frames a f inside there room =
    let at : f * 4096 + a % 4096 < length frames = omega arith in
    let first : byte_under frame_at frames a ≡ get_or frames (f * 4096 + a % 4096) 0 = ap (λ o. byte_in frames o (a % 4096)) there in
    list_at-more 0 (byte_under frame_at frames) a
    ∙ (λ i. first i ∷ list_at-none (byte_under frame_at frames) (a + 1) i)
    ∙ sym (ap (take 1) (drop_more frames (f * 4096 + a % 4096) 0 at))
list_of_frame (suc (suc n)) frame_at frames a f inside there room =
    let at : f * 4096 + a % 4096 < length frames = omega arith in
    let first : byte_under frame_at frames a ≡ get_or frames (f * 4096 + a % 4096) 0 = ap (λ o. byte_in frames o (a % 4096)) there in
    let page : (a + 1) / 4096 ≡ a / 4096 = omega arith in
    let fits : (a + 1) % 4096 + suc n ≤ 4096 = omega arith in
    let place : f * 4096 + (a + 1) % 4096 ≡ f * 4096 + a % 4096 + 1 = omega arith in
    let rest = list_of_frame (suc n) frame_at frames (a + 1) f fits (ap frame_at page ∙ there) room ∙ ap (λ p. take (suc n) (drop p frames)) place in
    list_at-more (suc n) (byte_under frame_at frames) a
    ∙ (λ i. first i ∷ rest i)
    ∙ sym (ap (take (suc (suc n))) (drop_more frames (f * 4096 + a % 4096) 0 at))

pub list_of_none : (n : ℕ) (frame_at : ℕ → Option ℕ) (frames : List ℕ) (a : ℕ) → a % 4096 + n ≤ 4096 → frame_at (a / 4096) ≡ None → list_at n (byte_under frame_at frames) a ≡ replicate n 0
list_of_none zero frame_at frames a inside away = list_at-none (byte_under frame_at frames) a
list_of_none (suc zero) frame_at frames a inside away =
    let first : byte_under frame_at frames a ≡ 0 = ap (λ o. byte_in frames o (a % 4096)) away in
    list_at-more 0 (byte_under frame_at frames) a ∙ (λ i. first i ∷ list_at-none (byte_under frame_at frames) (a + 1) i)
list_of_none (suc (suc n)) frame_at frames a inside away =
    let first : byte_under frame_at frames a ≡ 0 = ap (λ o. byte_in frames o (a % 4096)) away in
    let page : (a + 1) / 4096 ≡ a / 4096 = omega arith in
    let fits : (a + 1) % 4096 + suc n ≤ 4096 = omega arith in
    let rest = list_of_none (suc n) frame_at frames (a + 1) fits (ap frame_at page ∙ away) in
    list_at-more (suc n) (byte_under frame_at frames) a ∙ (λ i. first i ∷ rest i)

-- ---- bytes that are written

pub length-put_at : (xs bytes : List ℕ) (at : ℕ) → at + length bytes ≤ length xs → length (put_at xs at bytes) ≡ length xs
length-put_at xs bytes at within = simp (length-append, length-take, length-drop) (omega arith)

pub put_at_below : (xs bytes : List ℕ) (at i : ℕ) → at + length bytes ≤ length xs → i < at → get_or (put_at xs at bytes) i 0 ≡ get_or xs i 0
put_at_below xs bytes at i within below =
    let front : i < length (take at xs) = simp length-take (omega arith) in
    get_or_append_left (take at xs) (bytes ++ drop (at + length bytes) xs) 0 i front ∙ get_or-take at xs i 0 below

pub put_at_within : (xs bytes : List ℕ) (at k : ℕ) → at + length bytes ≤ length xs → k < length bytes → get_or (put_at xs at bytes) (at + k) 0 ≡ get_or bytes k 0
put_at_within xs bytes at k within here =
    let front : length (take at xs) ≡ at = simp length-take (omega arith) in
    let place : at + k - at ≡ k = omega arith in
    get_or-append_right (take at xs) (bytes ++ drop (at + length bytes) xs) at (at + k) 0 front (omega arith)
    ∙ ap (λ p. get_or (bytes ++ drop (at + length bytes) xs) p 0) place
    ∙ get_or_append_left bytes (drop (at + length bytes) xs) 0 k here

pub put_at_above : (xs bytes : List ℕ) (at i : ℕ) → at + length bytes ≤ length xs → at + length bytes ≤ i → get_or (put_at xs at bytes) i 0 ≡ get_or xs i 0
put_at_above xs bytes at i within above =
    let front : length (take at xs) ≡ at = simp length-take (omega arith) in
    let place : at + length bytes + (i - at - length bytes) ≡ i = omega arith in
    get_or-append_right (take at xs) (bytes ++ drop (at + length bytes) xs) at i 0 front (omega arith)
    ∙ get_or-append_right bytes (drop (at + length bytes) xs) (length bytes) (i - at) 0 refl (omega arith)
    ∙ get_or-drop (at + length bytes) xs (i - at - length bytes) 0
    ∙ ap (λ p. get_or xs p 0) place

-- a byte of the page written to
written_here : (frame_at : ℕ → Option ℕ) (frames bytes : List ℕ) (a f k : ℕ) → frame_at (a / 4096) ≡ Some f → f * 4096 + 4096 ≤ length frames → a % 4096 + length bytes ≤ 4096
    → k < length bytes → byte_under frame_at (put_at frames (f * 4096 + a % 4096) bytes) (a + k) ≡ with_list (byte_under frame_at frames) a bytes (a + k)
written_here frame_at frames bytes a f k there room inside here =
    let page : (a + k) / 4096 ≡ a / 4096 = omega arith in
    let place : f * 4096 + (a + k) % 4096 ≡ f * 4096 + a % 4096 + k = omega arith in
    ap (λ o. byte_in (put_at frames (f * 4096 + a % 4096) bytes) o ((a + k) % 4096)) (ap frame_at page ∙ there)
    ∙ ap (λ p. get_or (put_at frames (f * 4096 + a % 4096) bytes) p 0) place
    ∙ put_at_within frames bytes (f * 4096 + a % 4096) k (omega arith) here
    ∙ sym (with_list_within bytes (byte_under frame_at frames) a k here)

-- any other byte
kept : (frame_at : ℕ → Option ℕ) (frames bytes : List ℕ) (a f x : ℕ) (o : Option ℕ) → IsOneToOne frame_at → frame_at (a / 4096) ≡ Some f → f * 4096 + 4096 ≤ length frames → a % 4096 + length bytes ≤ 4096
    → (x < a) ⊎ (a + length bytes ≤ x) → frame_at (x / 4096) ≡ o → byte_in (put_at frames (f * 4096 + a % 4096) bytes) o (x % 4096) ≡ byte_in frames o (x % 4096)
kept frame_at frames bytes a f x None apart there room inside away found = refl
kept frame_at frames bytes a f x (Some g) apart there room inside away found =
    elim (cases_lt (g * 4096 + x % 4096) (f * 4096 + a % 4096)) [
      | inl below ↦ put_at_below frames bytes (f * 4096 + a % 4096) (g * 4096 + x % 4096) (omega arith) below
      | inr from ↦ elim (cases_lt (g * 4096 + x % 4096) (f * 4096 + a % 4096 + length bytes)) [
        | inl before ↦
            let same : g ≡ f = omega arith in
            let pages : x / 4096 ≡ a / 4096 = apart (x / 4096) (a / 4096) f (found ∙ ap Some same) there in
            absurd (elim away [ inl low ↦ (let clash : ⊥ = omega (arith, pages, same) in clash) | inr high ↦ (let clash : ⊥ = omega (arith, pages, same) in clash) ])
        | inr above ↦ put_at_above frames bytes (f * 4096 + a % 4096) (g * 4096 + x % 4096) (omega arith) above
      ]
    ]

-- bytes written into the frame of their page are these bytes written into memory
pub put_at-under : (frame_at : ℕ → Option ℕ) (frames bytes : List ℕ) (a f : ℕ) → IsOneToOne frame_at → frame_at (a / 4096) ≡ Some f → f * 4096 + 4096 ≤ length frames
    → a % 4096 + length bytes ≤ 4096 → byte_under frame_at (put_at frames (f * 4096 + a % 4096) bytes) ≡ with_list (byte_under frame_at frames) a bytes
put_at-under frame_at frames bytes a f apart there room inside = λ i x. at_each x i where
  at_each : (x : ℕ) → byte_under frame_at (put_at frames (f * 4096 + a % 4096) bytes) x ≡ with_list (byte_under frame_at frames) a bytes x
  at_each x = elim (cases_lt x a) [
    | inl below ↦ kept frame_at frames bytes a f x (frame_at (x / 4096)) apart there room inside (inl below) refl ∙ sym (with_list_below bytes (byte_under frame_at frames) a x below)
    | inr from ↦ elim (cases_lt x (a + length bytes)) [
      | inl before ↦
          let whole : a + (x - a) ≡ x = omega arith in
          let here : x - a < length bytes = omega arith in
          subst (λ y. byte_under frame_at (put_at frames (f * 4096 + a % 4096) bytes) y ≡ with_list (byte_under frame_at frames) a bytes y) whole (written_here frame_at frames bytes a f (x - a) there room inside here)
      | inr above ↦ kept frame_at frames bytes a f x (frame_at (x / 4096)) apart there room inside (inr above) refl ∙ sym (with_list_above bytes (byte_under frame_at frames) a x above)
    ]
  ]
