-- Lists of touched pages.
use Rattle.std.proofs.Common.{◌≡◌, ◌⊎◌, ℕ, zero, suc, ◌+◌, ◌-◌, ◌*◌, ◌/◌, ◌%◌, ◌<◌, ◌≤◌, nat_lt, Bool, true, false, cond, ◌||◌, ◌==◌, List, [], ◌∷◌, length, refl, sym, ap, ◌∙◌, arith, inl, inr}
use Rattle.std.proofs.lemmas.Bool.Decides.{eqb_tells}
use Rattle.paged_memory.specs.Touched.{has_page, page_placed, touched_with, touched_by}

or_swap : (a b c : Bool) → (a || (b || c)) ≡ (b || (a || c))
or_swap true true c = refl
or_swap true false c = refl
or_swap false true c = refl
or_swap false false c = refl

or_same : (b : Bool) → (true || b) ≡ true
or_same b = refl

pub has_page-placed : (p q : ℕ) (pages : List ℕ) → has_page (page_placed q pages) p ≡ (q == p || has_page pages p)
has_page-placed p q [] = refl
has_page-placed p q (x ∷ xs) = elim (nat_lt q x) as (λ b. has_page (cond b (q ∷ x ∷ xs) (x ∷ page_placed q xs)) p ≡ (q == p || (x == p || has_page xs p))) [
  | true ↦ refl
  | false ↦ ap (λ t. x == p || t) (has_page-placed p q xs) ∙ or_swap (x == p) (q == p) (has_page xs p)
]

pub length-page_placed : (p : ℕ) (pages : List ℕ) → length (page_placed p pages) ≡ length pages + 1
length-page_placed p [] = refl
length-page_placed p (x ∷ xs) = elim (nat_lt p x) as (λ b. length (cond b (p ∷ x ∷ xs) (x ∷ page_placed p xs)) ≡ length (x ∷ xs) + 1) [
  | true ↦ omega arith
  | false ↦ let rest = length-page_placed p xs in omega (arith, rest)
]

-- ---- one page more

pub touched_with-old : (p : ℕ) (pages : List ℕ) → has_page pages p ≡ true → touched_with p pages ≡ pages
touched_with-old p pages e = rw e refl

pub touched_with-new : (p : ℕ) (pages : List ℕ) → has_page pages p ≡ false → touched_with p pages ≡ page_placed p pages
touched_with-new p pages e = rw e refl

same_page : (p : ℕ) → (p == p) ≡ true
same_page p = elim (eqb_tells p p) [ inl e ↦ e.0 | inr e ↦ absurd (e.1 refl) ]

other_page : (p q : ℕ) → p < q → (p == q) ≡ false
other_page p q below = elim (eqb_tells p q) [ inl e ↦ (let same = e.1 in absurd (omega arith)) | inr e ↦ e.0 ]

has_page-touched_here : (p : ℕ) (pages : List ℕ) → has_page (touched_with p pages) p ≡ true
has_page-touched_here p pages = elim (has_page pages p) as (λ b. has_page pages p ≡ b → has_page (cond b pages (page_placed p pages)) p ≡ true) [
  | true ↦ λ e. e
  | false ↦ λ e. has_page-placed p p pages ∙ ap (λ b. b || has_page pages p) (same_page p)
] refl

pub touched_with-twice : (p : ℕ) (pages : List ℕ) → touched_with p (touched_with p pages) ≡ touched_with p pages
touched_with-twice p pages = touched_with-old p (touched_with p pages) (has_page-touched_here p pages)

has_page-touched_other : (p q : ℕ) (pages : List ℕ) → q < p → has_page (touched_with q pages) p ≡ has_page pages p
has_page-touched_other p q pages below = elim (has_page pages q) as (λ b. has_page (cond b pages (page_placed q pages)) p ≡ has_page pages p) [
  | true ↦ refl
  | false ↦ has_page-placed p q pages ∙ ap (λ b. b || has_page pages p) (other_page q p below)
]

pub length-touched_with : (p : ℕ) (pages : List ℕ) → length pages ≤ length (touched_with p pages)
length-touched_with p pages = elim (has_page pages p) as (λ b. length pages ≤ length (cond b pages (page_placed p pages))) [
  | true ↦ omega arith
  | false ↦ let more = length-page_placed p pages in omega (arith, more)
]

-- ---- the pages of bytes

pub touched_by-none : (a : ℕ) (pages : List ℕ) → touched_by 0 a pages ≡ pages
unfolding touched_by
touched_by-none a pages = refl

pub touched_by-more : (n a : ℕ) (pages : List ℕ) → touched_by (suc n) a pages ≡ touched_by n (a + 1) (touched_with (a / 4096) pages)
unfolding touched_by
touched_by-more n a pages = refl

pub touched_by-add : (n k a : ℕ) (pages : List ℕ) → touched_by (n + k) a pages ≡ touched_by k (a + n) (touched_by n a pages)
touched_by-add zero k a pages =
    let none : 0 + k ≡ k = omega arith in
    let here : a + 0 ≡ a = omega arith in
    rw (none, here, touched_by-none a pages) refl
touched_by-add (suc n) k a pages =
    let more : suc n + k ≡ suc (n + k) = omega arith in
    let there : a + 1 + n ≡ a + suc n = omega arith in
    rw (more, touched_by-more (n + k) a pages, touched_by-more n a pages) (touched_by-add n k (a + 1) (touched_with (a / 4096) pages) ∙ ap (λ x. touched_by k x (touched_by n (a + 1) (touched_with (a / 4096) pages))) there)

pub touched_by-piece : (n a : ℕ) (pages : List ℕ) → a % 4096 + suc n ≤ 4096 → touched_by (suc n) a pages ≡ touched_with (a / 4096) pages
touched_by-piece zero a pages inside = touched_by-more 0 a pages ∙ touched_by-none (a + 1) (touched_with (a / 4096) pages)
touched_by-piece (suc n) a pages inside =
    let page : (a + 1) / 4096 ≡ a / 4096 = omega arith in
    let fits : (a + 1) % 4096 + suc n ≤ 4096 = omega arith in
    touched_by-more (suc n) a pages ∙ touched_by-piece n (a + 1) (touched_with (a / 4096) pages) fits
    ∙ ap (λ p. touched_with p (touched_with (a / 4096) pages)) page ∙ touched_with-twice (a / 4096) pages

pub length-touched_by : (n a : ℕ) (pages : List ℕ) → length pages ≤ length (touched_by n a pages)
length-touched_by zero a pages = rw (touched_by-none a pages) (omega arith)
length-touched_by (suc n) a pages =
    let one = length-touched_with (a / 4096) pages in
    let rest = length-touched_by n (a + 1) (touched_with (a / 4096) pages) in
    rw (touched_by-more n a pages) (omega (arith, one, rest))

-- bytes below a page touch others
pub has_page-touched_by : (n a p : ℕ) (pages : List ℕ) → a + n ≤ p * 4096 → has_page (touched_by n a pages) p ≡ has_page pages p
has_page-touched_by zero a p pages below = ap (λ t. has_page t p) (touched_by-none a pages)
has_page-touched_by (suc n) a p pages below =
    ap (λ t. has_page t p) (touched_by-more n a pages) ∙ has_page-touched_by n (a + 1) p (touched_with (a / 4096) pages) (omega arith)
    ∙ has_page-touched_other p (a / 4096) pages (omega arith)

-- a piece of one page is there, or one page more
-- a page that was touched is touched already
pub piece_old : (n a : ℕ) (pages : List ℕ) → 0 < n → a % 4096 + n ≤ 4096 → has_page pages (a / 4096) ≡ true → touched_by n a pages ≡ pages
piece_old zero a pages some inside has = absurd (omega arith)
piece_old (suc n) a pages some inside has = touched_by-piece n a pages inside ∙ touched_with-old (a / 4096) pages has

pub length-piece_old : (n a : ℕ) (pages : List ℕ) → 0 < n → a % 4096 + n ≤ 4096 → has_page pages (a / 4096) ≡ true → length (touched_by n a pages) ≡ length pages
length-piece_old zero a pages some inside here = absurd (omega arith)
length-piece_old (suc n) a pages some inside here = ap length (touched_by-piece n a pages inside ∙ touched_with-old (a / 4096) pages here)

pub length-piece_new : (n a : ℕ) (pages : List ℕ) → 0 < n → a % 4096 + n ≤ 4096 → has_page pages (a / 4096) ≡ false → length (touched_by n a pages) ≡ length pages + 1
length-piece_new zero a pages some inside away = absurd (omega arith)
length-piece_new (suc n) a pages some inside away = ap length (touched_by-piece n a pages inside ∙ touched_with-new (a / 4096) pages away) ∙ length-page_placed (a / 4096) pages

-- ---- counting the pages that are not there

adds : (pages : List ℕ) (k a : ℕ) (b : Bool) → 0 < k → a % 4096 + k ≤ 4096 → has_page pages (a / 4096) ≡ b → length (touched_by k a pages) ≡ length pages + cond b 0 1
adds pages k a true some inside has = length-piece_old k a pages some inside has ∙ omega arith
adds pages k a false some inside has = length-piece_new k a pages some inside has

-- what a piece of one page adds to the pages of the bytes before it
pub piece_adds : (at k a : ℕ) (pages : List ℕ) (b : Bool) → 0 < k → (a + at) % 4096 + k ≤ 4096 → (at ≡ 0) ⊎ ((a + at) % 4096 ≡ 0) → has_page pages ((a + at) / 4096) ≡ b
    → length (touched_by (at + k) a pages) ≡ length (touched_by at a pages) + cond b 0 1
piece_adds at k a pages b some inside edge has =
    let before : has_page (touched_by at a pages) ((a + at) / 4096) ≡ has_page pages ((a + at) / 4096) = elim edge [
      | inl none ↦ ap (λ n. has_page (touched_by n a pages) ((a + at) / 4096)) none ∙ ap (λ t. has_page t ((a + at) / 4096)) (touched_by-none a pages)
      | inr whole ↦ has_page-touched_by at a ((a + at) / 4096) pages (omega arith)
    ] in
    ap length (touched_by-add at k a pages) ∙ adds (touched_by at a pages) k (a + at) b some inside (before ∙ has)

pub touched_by-step : (at k a : ℕ) (pages : List ℕ) → 0 < k → (a + at) % 4096 + k ≤ 4096 → touched_by (at + k) a pages ≡ touched_with ((a + at) / 4096) (touched_by at a pages)
touched_by-step at zero a pages some inside = absurd (omega arith)
touched_by-step at (suc k) a pages some inside = touched_by-add at (suc k) a pages ∙ touched_by-piece k (a + at) (touched_by at a pages) inside

pub length-touched_front : (n k a : ℕ) (pages : List ℕ) → n ≤ k → length (touched_by n a pages) ≤ length (touched_by k a pages)
length-touched_front n k a pages fits =
    let whole : n + (k - n) ≡ k = omega arith in
    let more = length-touched_by (k - n) (a + n) (touched_by n a pages) in
    let same = ap length (sym (touched_by-add n (k - n) a pages)) ∙ ap (λ j. length (touched_by j a pages)) whole in
    omega (arith, more, same)
