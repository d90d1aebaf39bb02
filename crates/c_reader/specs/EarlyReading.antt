-- How a program of the early form is read from left to right: what stands first in a list of tokens, and the tokens after it.
use Rattle.std.specs.Prelude.{◌≡◌, ℕ, zero, suc, Bool, false, ◌&&◌, ◌||◌, ◌==◌, nat_lt, length, slice_index, if◌then◌else◌, List, [], ◌∷◌, ◌++◌, codes, Option, Some, None, Result, Ok, Err}
use Rattle.std.specs.Fmt.{decimal}
use Rattle.std.specs.Str.{bytes_eq}
use Rattle.std.specs.Str.Parse.{digits_value}
use Rattle.c_reader.specs.declared.early.Act.{Act}
use Rattle.c_reader.specs.declared.early.Act.TheVariants.{Write, PutAt, Put}
use Rattle.c_reader.specs.declared.early.Early.{Early}
use Rattle.c_reader.specs.declared.early.EarlyFault.{EarlyFault}
use Rattle.c_reader.specs.declared.early.EarlyFault.TheVariants.{Unbuilt, OutOfMemory}
use Rattle.c_reader.specs.EarlyForm.{is_between, is_blank, tokens_of}
use Rattle.c_reader.specs.declared.early_tokens.Cursor.{Cursor}

abbrev pub begins_blank : List ℕ → Bool
begins_blank [] = false
begins_blank (b ∷ bs) = is_blank b

abbrev pub Tokens : Type 0
Tokens = List (List ℕ)

-- a value and the tokens after it, or `None` where none stands first
abbrev pub Front : Type 0 → Type 0
Front A = Option (A × Tokens)

-- one thing and then another
abbrev pub and_then : {A B : Type 0} → Front A → (A → Tokens → Front B) → Front B
and_then None go_on = None
and_then (Some p) go_on = go_on p.0 p.1

-- the first token is this one
abbrev pub sees : List ℕ → Tokens → Bool
sees word [] = false
sees word (t ∷ ts) = bytes_eq t word

-- these tokens
abbrev pub exactly : Tokens → Tokens → Front (Unit {0})
exactly [] ts = Some (tt, ts)
exactly (word ∷ words) [] = None
exactly (word ∷ words) (t ∷ ts) = if bytes_eq t word then exactly words ts else None

-- a lower-case letter
abbrev pub letter_of : Tokens → Front ℕ
letter_of [] = None
letter_of ([] ∷ ts) = None
letter_of ((b ∷ []) ∷ ts) = if is_between 97 122 b then Some (b, ts) else None
letter_of ((b ∷ c ∷ bs) ∷ ts) = None

-- a plus, or a 0 that is not all, stands in front
abbrev pub begins_oddly : List ℕ → Bool
begins_oddly t = slice_index t 0 == 43 || (slice_index t 0 == 48 && nat_lt 1 (length t))

-- the number below 65,536 that has this decimal
unfoldable pub numeral : List ℕ → Option ℕ
numeral t = if bytes_eq t (decimal (digits_value 10 t)) && nat_lt (digits_value 10 t) 65536 then Some (digits_value 10 t) else None

abbrev pub if_between : ℕ → ℕ → Option ℕ → Tokens → Front ℕ
if_between least most None ts = None
if_between least most (Some n) ts = if is_between least most n then Some (n, ts) else None

-- a number from the least to the most
abbrev pub number_of : ℕ → ℕ → Tokens → Front ℕ
number_of least most [] = None
number_of least most (t ∷ ts) = if_between least most (numeral t) ts

-- a number in brackets
abbrev pub index_of : ℕ → ℕ → Tokens → Front ℕ
index_of least most ts =
    and_then (exactly (codes "[" ∷ []) ts) (λ _ ts.
    and_then (number_of least most ts) (λ index ts.
    and_then (exactly (codes "]" ∷ []) ts) (λ _ ts. Some (index, ts))))

abbrev pub element_of : List ℕ → Tokens → Front ℕ
element_of name ts = and_then (exactly (name ∷ []) ts) (λ _ ts. index_of 0 65535 ts)

abbrev pub write_of : List ℕ → Tokens → Front Act
write_of name ts =
    and_then (element_of name ts) (λ index ts.
    and_then (exactly (codes "=" ∷ []) ts) (λ _ ts.
    and_then (number_of 0 255 ts) (λ value ts.
    and_then (exactly (codes ";" ∷ []) ts) (λ _ ts. Some (Write index value, ts)))))

-- what `put` puts
abbrev pub put_at_of : List ℕ → Tokens → Front Act
put_at_of name ts =
    and_then (element_of name ts) (λ index ts.
    and_then (exactly (codes ")" ∷ codes ";" ∷ []) ts) (λ _ ts. Some (PutAt index, ts)))

abbrev pub put_value_of : Tokens → Front Act
put_value_of ts =
    and_then (number_of 0 255 ts) (λ value ts.
    and_then (exactly (codes ")" ∷ codes ";" ∷ []) ts) (λ _ ts. Some (Put value, ts)))

abbrev pub put_of : List ℕ → Tokens → Front Act
put_of name ts =
    and_then (exactly (codes "put" ∷ codes "(" ∷ []) ts) (λ _ ts.
    if sees name ts then put_at_of name ts else put_value_of ts)

unfoldable pub act_of : List ℕ → Tokens → Front Act
act_of name ts = if sees (codes "put") ts then put_of name ts else write_of name ts

-- these acts before those that are read
abbrev pub before : List Act → Front (List Act) → Front (List Act)
before front None = None
before front (Some p) = Some (front ++ p.0, p.1)

-- the acts up to `return`, at most so many
unfoldable pub acts_of : ℕ → List ℕ → Tokens → Front (List Act)
acts_of zero name ts = if sees (codes "return") ts then Some ([], ts) else None
acts_of (suc most) name ts =
    if sees (codes "return") ts then Some ([], ts)
    else and_then (act_of name ts) (λ act ts. before (act ∷ []) (acts_of most name ts))

-- the parts of a program
pub record Parts : Type 0 where
  pub size : ℕ
  pub acts : List Act
  pub code : ℕ

abbrev pub parts_of : Early → Parts
parts_of e = record { size = e.size; acts = e.acts.items; code = e.code }

-- ; int main ( void ) {
abbrev pub main_tokens : Tokens
main_tokens = codes ";" ∷ codes "int" ∷ codes "main" ∷ codes "(" ∷ codes "void" ∷ codes ")" ∷ codes "{" ∷ []

unfoldable pub program_of : Tokens → Front Parts
program_of ts =
    and_then (exactly (codes "char" ∷ []) ts) (λ _ ts.
    and_then (letter_of ts) (λ letter ts.
    and_then (index_of 1 4096 ts) (λ size ts.
    and_then (exactly main_tokens ts) (λ _ ts.
    and_then (acts_of 1000 (letter ∷ []) ts) (λ acts ts.
    and_then (exactly (codes "return" ∷ []) ts) (λ _ ts.
    and_then (number_of 0 255 ts) (λ code ts.
    and_then (exactly (codes ";" ∷ codes "}" ∷ []) ts) (λ _ ts. Some (record { size = size; acts = acts; code = code }, ts)))))))))

abbrev pub at_end : Parts → Tokens → Front Parts
at_end parts [] = Some (parts, [])
at_end parts (t ∷ ts) = None

-- a program, and no token after it
unfoldable pub whole_of : Tokens → Front Parts
whole_of ts = and_then (program_of ts) at_end

-- a result is what stands first, as it is seen, and these are the tokens after it
abbrev pub GivesSeen : {V A : Type 0} → (V → A) → Front A → Result V EarlyFault → Tokens → Type 0
GivesSeen seen front (Ok v) after = front ≡ Some (seen v, after)
GivesSeen seen front (Err Unbuilt) after = front ≡ None
GivesSeen seen front (Err OutOfMemory) after = Unit {0}

abbrev pub Gives : {A : Type 0} → Front A → Result A EarlyFault → Tokens → Type 0
Gives front result after = GivesSeen (λ v. v) front result after

-- the tokens that a reader has not come to yet
abbrev pub left : Cursor → Tokens
left reader = tokens_of reader.rest.now
