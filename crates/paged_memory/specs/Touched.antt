-- The touched pages, by number: page p has the 4,096 bytes from address 4,096 p on.
use Rattle.std.specs.Prelude.{ℕ, zero, suc, ◌+◌, ◌/◌, nat_lt, Bool, ◌==◌, if◌then◌else◌, List, [], ◌∷◌, length}
use Rattle.std.specs.List.{list_any}

abbrev pub has_page : List ℕ → ℕ → Bool
has_page pages p = list_any (λ q. q == p) pages

-- a page among others by number
abbrev pub page_placed : ℕ → List ℕ → List ℕ
page_placed p [] = p ∷ []
page_placed p (q ∷ qs) = if nat_lt p q then p ∷ q ∷ qs else q ∷ page_placed p qs

-- the touched pages once this one is touched too
abbrev pub touched_with : ℕ → List ℕ → List ℕ
touched_with p pages = if has_page pages p then pages else page_placed p pages

-- the touched pages once n bytes from a on are touched: each touches its page
unfoldable pub touched_by : ℕ → ℕ → List ℕ → List ℕ
touched_by zero a pages = pages
touched_by (suc n) a pages = touched_by n (a + 1) (touched_with (a / 4096) pages)

-- how many frames these pages need
abbrev pub frames_for : List ℕ → ℕ
frames_for pages = length pages
