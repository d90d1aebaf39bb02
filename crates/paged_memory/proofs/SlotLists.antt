-- Slots by page: which frame a page has, and a page that gets one.
use Rattle.std.specs.List.{insert, find}
use Rattle.std.specs.Option.{is_some}
use Rattle.std.proofs.Common.{◌≡◌, ◌≢◌, ◌⊎◌, ℕ, zero, suc, ◌+◌, ◌*◌, ◌/◌, ◌%◌, ◌^◌, ◌<◌, ◌≤◌, nat_lt, nat_le, Bool, true, false, cond, not, ◌||◌, ◌==◌, Option, None, Some, List, [], ◌∷◌, length, get_or, replicate, refl, sym, ap, ◌∙◌, subst, arith, inl, inr}
use Rattle.std.proofs.lemmas.List.{length-map, length-replicate}
use Rattle.std.specs.List.Sorted.{IsPartitionPoint}
use Rattle.std.specs.Prelude.{slice_index}
use Rattle.std.proofs.lemmas.Bool.Decides.{eqb_tells, nat_tests}
use Rattle.paged_memory.specs.declared.slots.Slot.{Slot}
use Rattle.paged_memory.specs.Touched.{has_page, page_placed, touched_with}
use Rattle.paged_memory.specs.Frames.{frame_in, frame_number, pages_in, slot_placed, AreByPage, byte_in, byte_under, IsSound, KeepsFrames, HasFrame, put_at}
use Rattle.paged_memory.proofs.PageLists.{touched_with-old, touched_with-new, length-page_placed}
use Rattle.paged_memory.proofs.PageBytes.{length-put_at, put_at_above}

pub frame_in_has : (slots : List Slot) (p : ℕ) → is_some (frame_in slots p) ≡ has_page (pages_in slots) p
frame_in_has [] p = refl
frame_in_has (s ∷ ss) p = elim (s.page == p) as (λ b. is_some (frame_number (cond b (Some s) (find (λ s. s.page == p) ss))) ≡ (b || has_page (pages_in ss) p)) [
  | true ↦ refl
  | false ↦ frame_in_has ss p
]

pub pages_in-slot_placed : (n : Slot) (slots : List Slot) → pages_in (slot_placed n slots) ≡ page_placed n.page (pages_in slots)
pages_in-slot_placed n [] = refl
pages_in-slot_placed n (s ∷ ss) = elim (nat_lt n.page s.page) as (λ b. pages_in (cond b (n ∷ s ∷ ss) (s ∷ slot_placed n ss)) ≡ cond b (n.page ∷ s.page ∷ pages_in ss) (s.page ∷ page_placed n.page (pages_in ss))) [
  | true ↦ refl
  | false ↦ ap (λ t. s.page ∷ t) (pages_in-slot_placed n ss)
]

pub length-slot_placed : (n : Slot) (slots : List Slot) → length (slot_placed n slots) ≡ length slots + 1
length-slot_placed n [] = refl
length-slot_placed n (s ∷ ss) = elim (nat_lt n.page s.page) as (λ b. length (cond b (n ∷ s ∷ ss) (s ∷ slot_placed n ss)) ≡ length (s ∷ ss) + 1) [
  | true ↦ omega arith
  | false ↦ let rest = length-slot_placed n ss in omega (arith, rest)
]

pub length-pages_in : (slots : List Slot) → length (pages_in slots) ≡ length slots
length-pages_in slots = length-map slots (λ (s : Slot). s.page)

frame_in-slot_placed : (n : Slot) (slots : List Slot) (p : ℕ) → frame_in slots n.page ≡ None → frame_in (slot_placed n slots) p ≡ cond (n.page == p) (Some n.frame) (frame_in slots p)
frame_in-slot_placed n [] p away = elim (n.page == p) as (λ b. frame_number (cond b (Some n) None) ≡ cond b (Some n.frame) None) [ true ↦ refl | false ↦ refl ]
frame_in-slot_placed n (s ∷ ss) p away = elim (nat_lt n.page s.page) as (λ b. frame_in (cond b (n ∷ s ∷ ss) (s ∷ slot_placed n ss)) p ≡ cond (n.page == p) (Some n.frame) (frame_in (s ∷ ss) p)) [
  | true ↦ elim (n.page == p) as (λ b. frame_number (cond b (Some n) (find (λ s. s.page == p) (s ∷ ss))) ≡ cond b (Some n.frame) (frame_in (s ∷ ss) p)) [ true ↦ refl | false ↦ refl ]
  | false ↦ elim (eqb_tells s.page n.page) [
    | inl same ↦ (let clash : Some s.frame ≡ None = rw same.0 at away in cc)
    | inr other ↦
        let rest : frame_in ss n.page ≡ None = rw other.0 at away in
        let after = frame_in-slot_placed n ss p rest in
        elim (eqb_tells s.page p) [
          | inl here ↦ elim (eqb_tells n.page p) [
            | inl also ↦ absurd (other.1 (here.1 ∙ sym also.1))
            | inr away2 ↦ rw (here.0, away2.0) refl
          ]
          | inr past ↦ rw past.0 after
        ]
  ]
]

-- a slot put in at its place
pub insert_placed : (slots : List Slot) (n : Slot) (i : ℕ) → i ≤ length slots → ((k : ℕ) (d : Slot) → k < i → nat_lt n.page (get_or slots k d).page ≡ false)
    → ((d : Slot) → i < length slots → nat_lt n.page (get_or slots i d).page ≡ true) → insert slots i n ≡ slot_placed n slots
insert_placed [] n i within before here =
    let none : i ≡ 0 = omega arith in
    rw none refl
insert_placed (s ∷ ss) n zero within before here = rw (here s (omega arith)) refl
insert_placed (s ∷ ss) n (suc i) within before here =
    let rest = insert_placed ss n i (omega arith) (λ k d below. before (suc k) d (omega arith)) (λ d below. here d (omega arith)) in
    rw (before zero s (omega arith)) (ap (λ t. s ∷ t) rest)

-- ---- slots by page

sorted_cons : (s : Slot) (ss : List Slot) → ((k : ℕ) (d : Slot) → k < length ss → s.page ≤ (get_or ss k d).page) → AreByPage ss → AreByPage (s ∷ ss)
sorted_cons s ss low sorted zero zero d up within = omega arith
sorted_cons s ss low sorted zero (suc j) d up within = low j d (omega arith)
sorted_cons s ss low sorted (suc i) zero d up within = absurd (omega arith)
sorted_cons s ss low sorted (suc i) (suc j) d up within = sorted i j d (omega arith) (omega arith)

sorted_tail : (s : Slot) (ss : List Slot) → AreByPage (s ∷ ss) → AreByPage ss
sorted_tail s ss sorted = λ i j d up within. sorted (suc i) (suc j) d (omega arith) (omega arith)

low_first : (low : ℕ) (s : Slot) (ss : List Slot) → low ≤ s.page → ((k : ℕ) (d : Slot) → k < length ss → low ≤ (get_or ss k d).page)
    → (k : ℕ) (d : Slot) → k < length (s ∷ ss) → low ≤ (get_or (s ∷ ss) k d).page
low_first low s ss here rest zero d within = here
low_first low s ss here rest (suc k) d within = rest k d (omega arith)

low_placed : (low : ℕ) (n : Slot) (ss : List Slot) → low ≤ n.page → ((k : ℕ) (d : Slot) → k < length ss → low ≤ (get_or ss k d).page)
    → (k : ℕ) (d : Slot) → k < length (slot_placed n ss) → low ≤ (get_or (slot_placed n ss) k d).page
low_placed low n [] here rest zero d within = here
low_placed low n [] here rest (suc k) d within = absurd (omega arith)
low_placed low n (s ∷ ss) here rest k d within = elim (nat_lt n.page s.page) as (λ b. k < length (cond b (n ∷ s ∷ ss) (s ∷ slot_placed n ss)) → low ≤ (get_or (cond b (n ∷ s ∷ ss) (s ∷ slot_placed n ss)) k d).page) [
  | true ↦ low_first low n (s ∷ ss) here rest k d
  | false ↦ low_first low s (slot_placed n ss) (rest zero d (omega arith)) (low_placed low n ss here (λ j e below. rest (suc j) e (omega arith))) k d
] within

sorted_placed : (n : Slot) (slots : List Slot) → AreByPage slots → AreByPage (slot_placed n slots)
sorted_placed n [] sorted = sorted_cons n [] (λ k d within. absurd (omega arith)) sorted
sorted_placed n (s ∷ ss) sorted = elim (nat_lt n.page s.page) as (λ b. nat_lt n.page s.page ≡ b → AreByPage (cond b (n ∷ s ∷ ss) (s ∷ slot_placed n ss))) [
  | true ↦ λ e. let below : n.page < s.page = grind (arith, nat_tests) in
      sorted_cons n (s ∷ ss) (λ k d within. let up = sorted zero k d (omega arith) within in omega (arith, up, below)) sorted
  | false ↦ λ e. let from : s.page ≤ n.page = grind (arith, nat_tests) in
      sorted_cons s (slot_placed n ss) (low_placed s.page n ss from (λ k d within. sorted zero (suc k) d (omega arith) (omega arith))) (sorted_placed n ss (sorted_tail s ss sorted))
] refl

-- ---- where a page stands among slots

pub not_before : (a b : ℕ) → nat_le b a ≡ true → nat_lt a b ≡ false
not_before a b h = grind (arith, nat_tests)

pub is_before : (a b : ℕ) → nat_le b a ≡ false → nat_lt a b ≡ true
is_before a b h = grind (arith, nat_tests)

pub lower_page : (a b : ℕ) → nat_lt a b ≡ true → a ≢ b
lower_page a b h = λ e. let low : a < b = grind (arith, nat_tests) in absurd (omega arith)

pub least_page : (a b : ℕ) → nat_lt a b ≡ false → b ≤ a
least_page a b h = grind (arith, nat_tests)

frame_past : (s : Slot) (ss : List Slot) (page : ℕ) → s.page ≢ page → frame_in (s ∷ ss) page ≡ frame_in ss page
frame_past s ss page other = elim (eqb_tells s.page page) [ inl e ↦ absurd (other e.1) | inr e ↦ rw e.0 refl ]

frame_at : (slots : List Slot) (page i : ℕ) (d : Slot) → ((k : ℕ) (e : Slot) → k < i → (get_or slots k e).page ≢ page) → i < length slots → (get_or slots i d).page ≡ page
    → frame_in slots page ≡ Some (get_or slots i d).frame
frame_at [] page i d before within here = absurd (omega arith)
frame_at (t ∷ ts) page zero d before within here = elim (eqb_tells t.page page) [ inl e ↦ rw e.0 refl | inr e ↦ absurd (e.1 here) ]
frame_at (t ∷ ts) page (suc i) d before within here =
    frame_past t ts page (before zero t (omega arith)) ∙ frame_at ts page i d (λ k e below. before (suc k) e (omega arith)) (omega arith) here

no_frame : (slots : List Slot) (page : ℕ) → ((k : ℕ) (d : Slot) → k < length slots → (get_or slots k d).page ≢ page) → frame_in slots page ≡ None
no_frame [] page all = refl
no_frame (t ∷ ts) page all = frame_past t ts page (all zero t (omega arith)) ∙ no_frame ts page (λ k d below. all (suc k) d (omega arith))

-- the frame of the first slot whose page is no lower, if that is the page
pub frame_found : (slots : List Slot) (page at : ℕ) (d : Slot) → IsPartitionPoint (λ s. nat_lt s.page page ≡ true) (λ s. nat_lt s.page page ≡ false) slots at → at < length slots → (get_or slots at d).page ≡ page
    → frame_in slots page ≡ Some (get_or slots at d).frame
frame_found slots page at d point within here = frame_at slots page at d (λ k e below. lower_page (get_or slots k e).page page (point.0 k e (omega arith) below)) within here

no_frame_above : (slots : List Slot) (page at k : ℕ) (d : Slot) → AreByPage slots → nat_lt (get_or slots at d).page page ≡ false → (get_or slots at d).page ≢ page → at ≤ k → k < length slots → (get_or slots k d).page ≢ page
no_frame_above slots page at k d sorted least other from within =
    let low = least_page (get_or slots at d).page page least in
    let up = sorted at k d from within in
    λ e. absurd (omega (arith, low, up, other, e))

pub no_frame_found : (slots : List Slot) (page at : ℕ) → AreByPage slots → IsPartitionPoint (λ s. nat_lt s.page page ≡ true) (λ s. nat_lt s.page page ≡ false) slots at
    → ((d : Slot) → at < length slots → (get_or slots at d).page ≢ page) → frame_in slots page ≡ None
no_frame_found slots page at sorted point other = no_frame slots page (λ k d within. elim (nat_lt k at) as (λ b. nat_lt k at ≡ b → (get_or slots k d).page ≢ page) [
  | true ↦ λ e. lower_page (get_or slots k d).page page (point.0 k d (omega arith) (let below : k < at = grind (arith, nat_tests) in below))
  | false ↦ λ e. let from = least_page k at e in no_frame_above slots page at k d sorted (point.1 at d (omega arith) (omega (arith, from))) (other d (omega (arith, from))) from within
] refl)

-- ---- a page that gets the next frame

some_of : (n : Slot) (p f : ℕ) (o : Option ℕ) → cond (n.page == p) (Some n.frame) o ≡ Some f → ((n.page ≡ p) × (n.frame ≡ f)) ⊎ (o ≡ Some f)
some_of n p f o found = elim (eqb_tells n.page p) [
  | inl same ↦ (let here : Some n.frame ≡ Some f = rw same.0 at found in inl (same.1, (let e : n.frame ≡ f = cc in e)))
  | inr other ↦ (let rest : o ≡ Some f = rw other.0 at found in inr rest)
]

sound_placed : (slots : List Slot) (n : Slot) → n.frame ≡ length slots → frame_in slots n.page ≡ None → (frames : List ℕ) (capacity : ℕ) → IsSound slots frames capacity
    → length (slot_placed n slots) ≤ capacity → IsSound (slot_placed n slots) frames capacity
sound_placed slots n next away frames capacity sound few =
    let long = length-slot_placed n slots in
    let at = λ (p : ℕ). frame_in-slot_placed n slots p away in
    record {
      room = sound.room;
      few = few;
      fits = sound.fits;
      sorted = sorted_placed n slots sound.sorted;
      below = λ p f found. elim (some_of n p f (frame_in slots p) (sym (frame_in-slot_placed n slots p away) ∙ found)) [
        | inl new ↦ (let same = new.1 in omega (arith, same, long, next))
        | inr old ↦ (let low = sound.below p f old in omega (arith, low, long))
      ];
      apart = λ p q f found also. elim (some_of n p f (frame_in slots p) (sym (frame_in-slot_placed n slots p away) ∙ found)) [
        | inl x ↦ elim (some_of n q f (frame_in slots q) (sym (frame_in-slot_placed n slots q away) ∙ also)) [
          | inl y ↦ sym x.0 ∙ y.0
          | inr y ↦ (let low = sound.below q f y in let same = x.1 in absurd (omega (arith, low, same, next)))
        ]
        | inr x ↦ elim (some_of n q f (frame_in slots q) (sym (frame_in-slot_placed n slots q away) ∙ also)) [
          | inl y ↦ (let low = sound.below p f x in let same = y.1 in absurd (omega (arith, low, same, next)))
          | inr y ↦ sound.apart p q f x y
        ]
      ];
      clean = λ i above. sound.clean i (omega (arith, long));
    }

byte_placed : (slots : List Slot) (n : Slot) (frames : List ℕ) (x : ℕ) → frame_in slots n.page ≡ None → ((i : ℕ) → n.frame * 4096 ≤ i → slice_index frames i ≡ 0)
    → byte_in frames (cond (n.page == x / 4096) (Some n.frame) (frame_in slots (x / 4096))) (x % 4096) ≡ byte_in frames (frame_in slots (x / 4096)) (x % 4096)
byte_placed slots n frames x away clean = elim (eqb_tells n.page (x / 4096)) [
  | inl same ↦ rw (same.0, ← same.1, away) (clean (n.frame * 4096 + x % 4096) (omega arith))
  | inr other ↦ rw other.0 refl
]

bytes_placed : (slots : List Slot) (n : Slot) → n.frame ≡ length slots → frame_in slots n.page ≡ None → (frames : List ℕ) (capacity : ℕ) → IsSound slots frames capacity
    → byte_under (frame_in (slot_placed n slots)) frames ≡ byte_under (frame_in slots) frames
bytes_placed slots n next away frames capacity sound = λ i x.
    (ap (λ o. byte_in frames o (x % 4096)) (frame_in-slot_placed n slots (x / 4096) away)
    ∙ byte_placed slots n frames x away (λ k above. sound.clean k (omega (arith, next)))) i

none_of : (o : Option ℕ) (b : Bool) → o ≡ None → is_some o ≡ b → b ≡ false
none_of None b e h = sym h
none_of (Some x) b e h = absurd (cc)

pub some_has : (o : Option ℕ) (f : ℕ) (b : Bool) → o ≡ Some f → is_some o ≡ b → b ≡ true
some_has None f b e h = absurd (cc)
some_has (Some x) f b e h = sym h

there_placed : (slots : List Slot) (n : Slot) → frame_in slots n.page ≡ None → frame_in (slot_placed n slots) n.page ≡ Some n.frame
there_placed slots n away = elim (eqb_tells n.page n.page) [
  | inl same ↦ frame_in-slot_placed n slots n.page away ∙ (rw same.0 refl)
  | inr other ↦ absurd (other.1 refl)
]

kept_placed : (slots : List Slot) (n : Slot) → frame_in slots n.page ≡ None → KeepsFrames slots (slot_placed n slots)
kept_placed slots n away p f there = elim (eqb_tells n.page p) [
  | inl same ↦ (let clash : Some f ≡ None = sym there ∙ ap (frame_in slots) (sym same.1) ∙ away in absurd (cc))
  | inr other ↦ frame_in-slot_placed n slots p away ∙ (rw other.0 there)
]

pub has_new_frame : (slots : List Slot) (page : ℕ) → frame_in slots page ≡ None
    → HasFrame slots (slot_placed record { page = page; frame = length slots } slots) page (length slots)
has_new_frame slots page away =
    let n : Slot = record { page = page; frame = length slots } in
    record {
      there = there_placed slots (record { page = page; frame = length slots }) away;
      kept = kept_placed slots (record { page = page; frame = length slots }) away;
      pages = pages_in-slot_placed (record { page = page; frame = length slots }) slots ∙ sym (touched_with-new page (pages_in slots) (none_of (frame_in slots page) (has_page (pages_in slots) page) away (frame_in_has slots page)));
      sound = sound_placed slots (record { page = page; frame = length slots }) refl away;
      same = bytes_placed slots (record { page = page; frame = length slots }) refl away;
    }

pub has_old_frame : (slots : List Slot) (page frame : ℕ) → frame_in slots page ≡ Some frame → HasFrame slots slots page frame
has_old_frame slots page frame there = record {
  there = there;
  kept = λ p f has. has;
  pages = sym (touched_with-old page (pages_in slots) (some_has (frame_in slots page) frame (has_page (pages_in slots) page) there (frame_in_has slots page)));
  sound = λ frames capacity sound few. sound;
  same = λ frames capacity sound. refl;
}

pub length-touched_new : (slots : List Slot) (page : ℕ) → frame_in slots page ≡ None → length (touched_with page (pages_in slots)) ≡ length slots + 1
length-touched_new slots page away =
    let long = length-page_placed page (pages_in slots) in
    let same = length-pages_in slots in
    ap length (touched_with-new page (pages_in slots) (none_of (frame_in slots page) (has_page (pages_in slots) page) away (frame_in_has slots page))) ∙ omega (arith, long, same)

-- whether a page is there, by whether it has no frame
pub has_by_none : (slots : List Slot) (p : ℕ) (o : Option ℕ) (none : Bool) → o ≡ frame_in slots p → is_some o ≡ not none → has_page (pages_in slots) p ≡ not none
has_by_none slots p o none found is = sym (frame_in_has slots p) ∙ ap is_some (sym found) ∙ is

-- bytes written into frames that pages have
pub sound_put : (slots : List Slot) (frames : List ℕ) (capacity at : ℕ) (bytes : List ℕ) → at + length bytes ≤ length slots * 4096 → IsSound slots frames capacity → IsSound slots (put_at frames at bytes) capacity
sound_put slots frames capacity at bytes within sound =
    let few = sound.few in
    let room = sound.room in
    let fits : at + length bytes ≤ length frames = omega (arith, few, room) in
    record {
      room = length-put_at frames bytes at fits ∙ sound.room;
      few = sound.few;
      fits = sound.fits;
      sorted = sound.sorted;
      below = sound.below;
      apart = sound.apart;
      clean = λ i above. put_at_above frames bytes at i fits (omega arith) ∙ sound.clean i above;
    }

-- a frame of a page lies whole among the frames
pub lie_within : (slots : List Slot) (frames : List ℕ) (capacity p f : ℕ) → IsSound slots frames capacity → frame_in slots p ≡ Some f → f * 4096 + 4096 ≤ length frames
lie_within slots frames capacity p f sound there =
    let low = sound.below p f there in
    let few = sound.few in
    let room = sound.room in
    omega (arith, low, few, room)

-- no slots over zeros
zeros_at : (n i : ℕ) → slice_index (replicate n 0) i ≡ 0
zeros_at zero i = refl
zeros_at (suc n) zero = refl
zeros_at (suc n) (suc i) = zeros_at n i

empty_sound : (bytes : List ℕ) (capacity : ℕ) → bytes ≡ replicate (capacity * 4096) 0 → capacity < 2 ^ 32 → IsSound [] bytes capacity
empty_sound bytes capacity zeros fits = record {
  room = ap length zeros ∙ length-replicate (capacity * 4096) 0;
  few = omega arith;
  fits = fits;
  sorted = λ i j d up within. absurd (omega arith);
  below = λ p f e. absurd (cc);
  apart = λ p q f e also. absurd (cc);
  clean = λ i above. ap (λ xs. slice_index xs i) zeros ∙ zeros_at (capacity * 4096) i;
}

pub sound_empty : (slots : List Slot) (bytes : List ℕ) (capacity : ℕ) → slots ≡ [] → bytes ≡ replicate (capacity * 4096) 0 → capacity < 2 ^ 32 → IsSound slots bytes capacity
sound_empty slots bytes capacity none zeros fits = subst (λ (s : List Slot). IsSound s bytes capacity) (sym none) (empty_sound bytes capacity zeros fits)
