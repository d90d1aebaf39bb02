-- Fields at the front of bytes, read from left to right. A field gives its value and the bytes after it. Where it is cut or breaks its
-- rule, it gives how many bytes are left from where it begins.
use Rattle.std.specs.Prelude.{◌≡◌, ℕ, zero, suc, ◌+◌, ◌-◌, ◌&&◌, Bool, List, [], ◌∷◌, length, take, drop, Result, Ok, Err, nat_lt, nat_le, if◌then◌else◌}
use Rattle.std.specs.Int.{Width, w32, byte_len, from_le_bytes}
use Rattle.obj_file.specs.declared.fault.Unread.{Unread}
use Rattle.obj_file.specs.declared.fault.Unread.TheVariants as unread
use Rattle.obj_file.specs.declared.fault.FormFault.{FormFault}
use Rattle.obj_file.specs.declared.fault.FormFault.TheVariants as fault

unfoldable pub and_then : {A B : Type 0} → Result A ℕ → (A → Result B ℕ) → Result B ℕ
and_then (Ok x) f = f x
and_then (Err left) f = Err left

infixl 10 ◌>>=◌
abbrev pub ◌>>=◌ : {A B : Type 0} → Result A ℕ → (A → Result B ℕ) → Result B ℕ
r >>= f = and_then r f

-- a number of a width, the low byte first
unfoldable pub number_at : Width → List ℕ → Result (ℕ × List ℕ) ℕ
number_at w bytes = if nat_lt (length bytes) (byte_len w) then Err (length bytes) else Ok (from_le_bytes w (take (byte_len w) bytes), drop (byte_len w) bytes)

-- n bytes
unfoldable pub bytes_at : ℕ → List ℕ → Result (List ℕ × List ℕ) ℕ
bytes_at n bytes = if nat_lt (length bytes) n then Err (length bytes) else Ok (take n bytes, drop n bytes)

-- a field whose value passes the test
unfoldable pub checked : {A : Type 0} → (A → Bool) → (List ℕ → Result (A × List ℕ) ℕ) → List ℕ → Result (A × List ℕ) ℕ
checked test field bytes = field bytes >>= λ x. if test x.0 then Ok x else Err (length bytes)

-- a number from low on and below end
unfoldable pub number_in : Width → ℕ → ℕ → List ℕ → Result (ℕ × List ℕ) ℕ
number_in w low end bytes = checked (λ n. nat_le low n && nat_lt n end) (number_at w) bytes

-- a length from low on and below end, and as many bytes, which pass the test
unfoldable pub sized_at : Width → ℕ → ℕ → (List ℕ → Bool) → List ℕ → Result (List ℕ × List ℕ) ℕ
sized_at w low end test bytes = do
  n ← number_in w low end bytes
  checked test (bytes_at n.0) n.1

-- n values, each read at the state that those before it leave
unfoldable pub many_at : {S A : Type 0} → (S → List ℕ → Result (A × List ℕ) ℕ) → (S → A → S) → ℕ → S → List ℕ → Result (List A × List ℕ) ℕ
many_at field next zero s bytes = Ok ([], bytes)
many_at field next (suc n) s bytes = do
  first ← field s bytes
  others ← many_at field next n (next s first.0) first.1
  Ok (first.0 ∷ others.0, others.1)

-- a count that is at most `most`, and as many values
unfoldable pub counted_at : {S A : Type 0} → (S → List ℕ → Result (A × List ℕ) ℕ) → (S → A → S) → ℕ → S → List ℕ → Result (List A × List ℕ) ℕ
counted_at field next most s bytes = do
  n ← number_in w32 0 (most + 1) bytes
  many_at field next n.0 s n.1

-- nothing follows the last field
abbrev pub ended : {A : Type 0} → A × List ℕ → Result A ℕ
ended x = if nat_lt 0 (length x.1) then Err (length x.1) else Ok x.0

-- the offset of what begins where so many of these bytes are left
abbrev pub offset : {A : Type 0} → List ℕ → Result A ℕ → Result A ℕ
offset bytes (Ok x) = Ok x
offset bytes (Err left) = Err (length bytes - left)

-- the value of all of the bytes; or the offset of the first field that is cut or breaks its rule, or else of the first byte after the
-- last field
unfoldable pub whole : {A : Type 0} → (List ℕ → Result (A × List ℕ) ℕ) → List ℕ → Result A ℕ
whole field bytes = offset bytes (field bytes >>= ended)

-- what a function returned, seen by view, is what reading gives, unless memory is wanting
abbrev pub Fails : {Y : Type 0} → Unread → Result Y ℕ → Type 0
Fails unread.OutOfMemory read = Unit {0}
Fails (unread.Left left) read = read ≡ Err left

abbrev pub Gives : {X Y : Type 0} → (X → Y) → Result X Unread → Result Y ℕ → Type 0
Gives view (Ok x) read = read ≡ Ok (view x)
Gives view (Err e) read = Fails e read

abbrev pub Refuses : {X : Type 0} → FormFault → Result X ℕ → Type 0
Refuses fault.OutOfMemory read = Unit {0}
Refuses (fault.BadForm at) read = read ≡ Err at

-- a function's answer is the value, or the offset of what is bad, unless memory is wanting
abbrev pub Tells : {X : Type 0} → Result X FormFault → Result X ℕ → Type 0
Tells (Ok x) read = read ≡ Ok x
Tells (Err e) read = Refuses e read
