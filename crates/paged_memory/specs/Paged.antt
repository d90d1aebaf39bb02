-- What callers see of a memory: the touched pages by number, each with its bytes, and how many frames there are.
use Rattle.std.specs.Prelude.{ℕ, ◌/◌, ◌%◌, ◌==◌, if◌then◌else◌, Option, None, Some, List, [], ◌∷◌, map, slice_index, refl}
use Rattle.std.specs.Coded.{Coded, code_by, coded×, coded_ℕ, coded_list}
use Rattle.mx_base.specs.Memory.{Bytes}
use Rattle.paged_memory.specs.Touched.{frames_for}

pub record Paged : Type 0 where
  pub pages : List (ℕ × List ℕ)
  pub capacity : ℕ

abbrev pub paged_code : Coded Paged
paged_code =
    code_by (List (ℕ × List ℕ) × ℕ) (coded× (coded_list (coded× coded_ℕ (coded_list coded_ℕ))) coded_ℕ) (λ s. (s.pages, s.capacity)) (λ p. record { pages = p.0; capacity = p.1 }) (λ _. refl)

-- the bytes of a page
abbrev pub page_bytes : List (ℕ × List ℕ) → ℕ → Option (List ℕ)
page_bytes [] p = None
page_bytes (q ∷ qs) p = if q.0 == p then Some q.1 else page_bytes qs p

-- the byte at a place of a page: an untouched page has zeros
abbrev pub byte_of_page : Option (List ℕ) → ℕ → ℕ
byte_of_page None at = 0
byte_of_page (Some bytes) at = slice_index bytes at

-- the byte at each address
unfoldable pub bytes_of : Paged → Bytes
bytes_of s = λ a. byte_of_page (page_bytes s.pages (a / 4096)) (a % 4096)

-- the touched pages in order
unfoldable pub touched_of : Paged → List ℕ
touched_of s = map (λ q. q.0) s.pages

-- how many frames are in use
abbrev pub in_use_of : Paged → ℕ
in_use_of s = frames_for (touched_of s)
