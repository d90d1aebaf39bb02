-- The early form: a text of at most 65,536 bytes whose tokens are those of one array of `char` and acts on it.
use Rattle.std.specs.Prelude.{◌≡◌, ℕ, ◌<◌, ◌≤◌, Bool, true, false, ◌||◌, ◌&&◌, cond, nat_le, ◌==◌, List, [], ◌∷◌, ◌++◌, length, flat_map, codes}
use Rattle.std.specs.Fmt.{decimal}
use Rattle.std.specs.List.{AllByRecursion}
use Rattle.c_reader.specs.declared.early.Act.{Act}
use Rattle.c_reader.specs.declared.early.Act.TheVariants.{Write, PutAt, Put}

abbrev pub is_between : ℕ → ℕ → ℕ → Bool
is_between from to b = nat_le from b && nat_le b to

-- a letter or a digit
abbrev pub is_word : ℕ → Bool
is_word b = is_between 97 122 b || is_between 65 90 b || is_between 48 57 b

-- a space or a line feed
abbrev pub is_blank : ℕ → Bool
is_blank b = b == 32 || b == 10

abbrev pub begins_word : List ℕ → Bool
begins_word [] = false
begins_word (b ∷ bs) = is_word b

-- this byte joins the first of the tokens
abbrev pub joined : ℕ → List (List ℕ) → List (List ℕ)
joined b [] = (b ∷ []) ∷ []
joined b (t ∷ ts) = (b ∷ t) ∷ ts

-- The tokens of a text, each by its bytes: every longest run of letters and digits, and every other byte that is no blank.
abbrev pub tokens_of : List ℕ → List (List ℕ)
tokens_of [] = []
tokens_of (b ∷ bs) = cond (is_blank b) (tokens_of bs)
    (cond (is_word b && begins_word bs) (joined b (tokens_of bs)) ((b ∷ []) ∷ tokens_of bs))

-- X [ K ]
abbrev pub element_tokens : List ℕ → ℕ → List (List ℕ)
element_tokens name index = name ∷ codes "[" ∷ decimal index ∷ codes "]" ∷ []

abbrev pub act_tokens : List ℕ → Act → List (List ℕ)
act_tokens name (Write index value) = element_tokens name index ++ codes "=" ∷ decimal value ∷ codes ";" ∷ []
act_tokens name (PutAt index) = codes "put" ∷ codes "(" ∷ [] ++ element_tokens name index ++ codes ")" ∷ codes ";" ∷ []
act_tokens name (Put value) = codes "put" ∷ codes "(" ∷ decimal value ∷ codes ")" ∷ codes ";" ∷ []

-- return V ; }
abbrev pub end_tokens : ℕ → List (List ℕ)
end_tokens code = codes "return" ∷ decimal code ∷ codes ";" ∷ codes "}" ∷ []

-- char X [ N ] ; int main ( void ) { acts return V ; }
abbrev pub program_tokens : List ℕ → ℕ → List Act → ℕ → List (List ℕ)
program_tokens name size acts code = codes "char" ∷ element_tokens name size ++ codes ";" ∷ codes "int" ∷ codes "main" ∷ codes "(" ∷ codes "void" ∷ codes ")" ∷ codes "{" ∷ []
    ++ (flat_map (act_tokens name) acts ++ end_tokens code)

-- what the numbers of an act may be
abbrev pub InRange : Act → Type 0
InRange (Write index value) = (index < 65536) × (value < 256)
InRange (PutAt index) = index < 65536
InRange (Put value) = value < 256

-- what the early form allows: the array's size, the number of acts, and every number
pub record IsAllowed (size : ℕ) (acts : List Act) (code : ℕ) : Type 0 where
  pub some : 1 ≤ size
  pub most : size ≤ 4096
  pub few : length acts ≤ 1000
  pub numbers : AllByRecursion InRange acts
  pub returned : code < 256

-- the bytes are of the early form, and these are its parts; the array's name is one lower-case letter
pub record IsEarly (bytes : List ℕ) (size : ℕ) (acts : List Act) (code : ℕ) : Type 0 where
  pub small : length bytes ≤ 65536
  pub letter : ℕ
  pub is_letter : is_between 97 122 letter ≡ true
  pub tokens : tokens_of bytes ≡ program_tokens (letter ∷ []) size acts code
  pub allowed : IsAllowed size acts code
