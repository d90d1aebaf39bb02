-- A program of the early form is read exactly: what is read is spelled by the tokens, and what they spell is read.
use Rattle.std.proofs.Common.{◌≡◌, ℕ, zero, suc, ◌≤◌, true, false, List, [], ◌∷◌, ◌++◌, length, Some, None, Result, Ok, Err, refl, sym, ◌∙◌, ap, subst, inl, inr, append_assoc, append-nil, arith}
use Rattle.std.specs.Prelude.{codes, flat_map, IfOk, MatchResult}
use Rattle.std.specs.List.{AllByRecursion}
use Rattle.std.specs.Fmt.{decimal}
use Rattle.std.proofs.lemmas.Bool.{cases_Bool}
use Rattle.c_reader.specs.declared.early.Act.{Act}
use Rattle.c_reader.specs.declared.early.Act.TheVariants.{Write, PutAt, Put}
use Rattle.c_reader.specs.declared.early.Early.{Early}
use Rattle.c_reader.specs.declared.early.EarlyFault.{EarlyFault}
use Rattle.c_reader.specs.declared.early.EarlyFault.TheVariants.{Unbuilt, OutOfMemory}
use Rattle.c_reader.specs.EarlyForm.{is_between, act_tokens, end_tokens, program_tokens, tokens_of, InRange, IsAllowed, IsEarly}
use Rattle.c_reader.specs.EarlyReading.{Tokens, Front, sees, write_of, put_at_of, put_value_of, put_of, act_of, acts_of, before, Parts, parts_of, main_tokens, program_of, at_end, whole_of, GivesSeen}
use Rattle.c_reader.specs.Spelling.{PartsAreUnique}
use Rattle.c_reader.proofs.Numerals.{decimal_no_letter}
use Rattle.c_reader.proofs.Pieces.{Gets, gets_none, gets_some, gets_then, bytes_eq-same, bytes_eq-other, gets_exactly, gets_letter, reads_letter, gets_number, reads_number, gets_index, reads_index, gets_element, reads_element}

-- an act stands first
abbrev pub IsAct : List ℕ → Tokens → Act → Tokens → Type 0
IsAct name ts act after = (ts ≡ act_tokens name act ++ after) × InRange act

gets_write : (name : List ℕ) (ts : Tokens) → Gets (write_of name ts) (IsAct name ts)
gets_write name ts =
    gets_then (gets_element name ts) (λ index ts1 element.
    gets_then (gets_exactly (codes "=" ∷ []) ts1) (λ _ ts2 is.
    gets_then (gets_number 0 255 ts2) (λ value ts3 number.
    gets_then (gets_exactly (codes ";" ∷ []) ts3) (λ _ ts4 ends.
    gets_some (Write index value) ts4 (rw (element.0, is, number.0, ends) refl, (element.1, omega (arith, number.1.high)))))))

gets_put_at : (name : List ℕ) (ts ts1 : Tokens) → ts ≡ codes "put" ∷ codes "(" ∷ ts1 → Gets (put_at_of name ts1) (IsAct name ts)
gets_put_at name ts ts1 puts =
    gets_then (gets_element name ts1) (λ index ts2 element.
    gets_then (gets_exactly (codes ")" ∷ codes ";" ∷ []) ts2) (λ _ ts3 ends.
    gets_some (PutAt index) ts3 (rw (puts, element.0, ends) refl, element.1)))

gets_put_value : (name : List ℕ) (ts ts1 : Tokens) → ts ≡ codes "put" ∷ codes "(" ∷ ts1 → Gets (put_value_of ts1) (IsAct name ts)
gets_put_value name ts ts1 puts =
    gets_then (gets_number 0 255 ts1) (λ value ts2 number.
    gets_then (gets_exactly (codes ")" ∷ codes ";" ∷ []) ts2) (λ _ ts3 ends.
    gets_some (Put value) ts3 (rw (puts, number.0, ends) refl, omega (arith, number.1.high))))

gets_put : (name : List ℕ) (ts : Tokens) → Gets (put_of name ts) (IsAct name ts)
gets_put name ts =
    gets_then (gets_exactly (codes "put" ∷ codes "(" ∷ []) ts) (λ _ ts1 puts.
    elim (cases_Bool (sees name ts1)) [
      | inl named ↦ rw named (gets_put_at name ts ts1 puts)
      | inr other ↦ rw other (gets_put_value name ts ts1 puts)
    ])

pub gets_act : (name : List ℕ) (ts : Tokens) → Gets (act_of name ts) (IsAct name ts)
unfolding act_of
gets_act name ts = elim (cases_Bool (sees (codes "put") ts)) [
  | inl puts ↦ rw puts (gets_put name ts)
  | inr other ↦ rw other (gets_write name ts)
]

-- at most so many acts stand first
pub record IsActs (most : ℕ) (name : List ℕ) (ts : Tokens) (acts : List Act) (after : Tokens) : Type 0 where
  pub spelled : ts ≡ flat_map (act_tokens name) acts ++ after
  pub few : length acts ≤ most
  pub numbers : AllByRecursion InRange acts

pub gets_acts : (most : ℕ) (name : List ℕ) (ts : Tokens) → Gets (acts_of most name ts) (IsActs most name ts)
unfolding acts_of
gets_acts zero name ts = elim (cases_Bool (sees (codes "return") ts)) [
  | inl ends ↦ rw ends (gets_some [] ts (record { spelled = refl; few = omega arith; numbers = tt }))
  | inr other ↦ rw other gets_none
]
gets_acts (suc most) name ts = elim (cases_Bool (sees (codes "return") ts)) [
  | inl ends ↦ rw ends (gets_some [] ts (record { spelled = refl; few = omega arith; numbers = tt }))
  | inr other ↦ rw other (gets_then (gets_act name ts) (λ act ts1 first. go act ts1 first (acts_of most name ts1) (gets_acts most name ts1)))
]
  where
    go : (act : Act) (ts1 : Tokens) → IsAct name ts act ts1 → (more : Front (List Act)) → Gets more (IsActs most name ts1) → Gets (before (act ∷ []) more) (IsActs (suc most) name ts)
    go act ts1 first None h = gets_none
    go act ts1 first (Some p) h =
        let rest = h.at p.0 p.1 refl in
        gets_some (act ∷ p.0) p.1 (record {
          spelled = first.0 ∙ (rw rest.spelled (sym (append_assoc (act_tokens name act) (flat_map (act_tokens name) p.0) p.1)));
          few = omega (arith, rest.few);
          numbers = (first.1, rest.numbers);
        })

reads_act : (b : ℕ) (act : Act) (rest : Tokens) → is_between 97 122 b ≡ true → InRange act → act_of (b ∷ []) (act_tokens (b ∷ []) act ++ rest) ≡ Some (act, rest)
unfolding act_of
reads_act b (Write index value) rest letter (low, high) =
    rw (bytes_eq-other (b ∷ []) (codes "put") (λ e. cc), reads_element (b ∷ []) index (codes "=" ∷ decimal value ∷ codes ";" ∷ rest) low, reads_number 0 255 value (codes ";" ∷ rest) (omega arith) (omega arith) (omega arith)) refl
reads_act b (PutAt index) rest letter low =
    rw (reads_element (b ∷ []) index (codes ")" ∷ codes ";" ∷ rest) low, bytes_eq-same (b ∷ [])) refl
reads_act b (Put value) rest letter low =
    rw (bytes_eq-other (decimal value) (b ∷ []) (decimal_no_letter value b (omega arith) letter), reads_number 0 255 value (codes ")" ∷ codes ";" ∷ rest) (omega arith) (omega arith) (omega arith)) refl

no_return : (b : ℕ) (act : Act) (rest : Tokens) → sees (codes "return") (act_tokens (b ∷ []) act ++ rest) ≡ false
no_return b (Write index value) rest = bytes_eq-other (b ∷ []) (codes "return") (λ e. cc)
no_return b (PutAt index) rest = refl
no_return b (Put value) rest = refl

reads_acts : (b most : ℕ) (acts : List Act) (rest : Tokens) → is_between 97 122 b ≡ true → length acts ≤ most → AllByRecursion InRange acts → sees (codes "return") rest ≡ true → acts_of most (b ∷ []) (flat_map (act_tokens (b ∷ [])) acts ++ rest) ≡ Some (acts, rest)
unfolding acts_of
reads_acts b zero [] rest letter few numbers ends = rw ends refl
reads_acts b (suc most) [] rest letter few numbers ends = rw ends refl
reads_acts b zero (act ∷ acts) rest letter few numbers ends = absurd (omega arith)
reads_acts b (suc most) (act ∷ acts) rest letter few numbers ends =
    let name = b ∷ [] in
    let after = flat_map (act_tokens name) acts ++ rest in
    rw (append_assoc (act_tokens name act) (flat_map (act_tokens name) acts) rest, no_return b act after, reads_act b act after letter numbers.0, reads_acts b most acts rest letter (omega arith) numbers.1 ends) refl

-- a program stands first
pub record IsProgram (ts : Tokens) (parts : Parts) (after : Tokens) : Type 0 where
  pub letter : ℕ
  pub is_letter : is_between 97 122 letter ≡ true
  pub spelled : ts ≡ program_tokens (letter ∷ []) parts.size parts.acts parts.code ++ after
  pub allowed : IsAllowed parts.size parts.acts parts.code

gets_program : (ts : Tokens) → Gets (program_of ts) (IsProgram ts)
unfolding program_of
gets_program ts =
    gets_then (gets_exactly (codes "char" ∷ []) ts) (λ _ ts1 begins.
    gets_then (gets_letter ts1) (λ b ts2 letter.
    gets_then (gets_index 1 4096 ts2) (λ size ts3 index.
    gets_then (gets_exactly main_tokens ts3) (λ _ ts4 main.
    gets_then (gets_acts 1000 (b ∷ []) ts4) (λ acts ts5 body.
    gets_then (gets_exactly (codes "return" ∷ []) ts5) (λ _ ts6 returns.
    gets_then (gets_number 0 255 ts6) (λ code ts7 number.
    gets_then (gets_exactly (codes ";" ∷ codes "}" ∷ []) ts7) (λ _ ts8 ends.
    gets_some (record { size = size; acts = acts; code = code }) ts8 (record {
      letter = b;
      is_letter = letter.1;
      spelled = rw (begins, letter.0, index.0, main, body.spelled, returns, number.0, ends, append_assoc (flat_map (act_tokens (b ∷ [])) acts) (end_tokens code) ts8) refl;
      allowed = record { some = index.1.low; most = index.1.high; few = body.few; numbers = body.numbers; returned = omega (arith, number.1.high) };
    })))))))))

reads_program : (b size code : ℕ) (acts : List Act) → is_between 97 122 b ≡ true → IsAllowed size acts code → program_of (program_tokens (b ∷ []) size acts code) ≡ Some (record { size = size; acts = acts; code = code }, [])
unfolding program_of
reads_program b size code acts letter allowed =
    let body = flat_map (act_tokens (b ∷ [])) acts ++ end_tokens code in
    rw (
      reads_letter b (codes "[" ∷ decimal size ∷ codes "]" ∷ main_tokens ++ body) letter,
      reads_index 1 4096 size (main_tokens ++ body) allowed.some allowed.most (omega (arith, allowed.most)),
      reads_acts b 1000 acts (end_tokens code) letter allowed.few allowed.numbers refl,
      reads_number 0 255 code (codes ";" ∷ codes "}" ∷ []) (omega arith) (omega (arith, allowed.returned)) (omega (arith, allowed.returned)),
    ) refl

gets_whole : (ts : Tokens) → Gets (whole_of ts) (λ parts _. IsProgram ts parts [])
unfolding whole_of
gets_whole ts = gets_then (gets_program ts) (λ parts after program. ended parts after program)
  where
    ended : (parts : Parts) (after : Tokens) → IsProgram ts parts after → Gets (at_end parts after) (λ parts _. IsProgram ts parts [])
    ended parts [] program = gets_some parts [] program
    ended parts (t ∷ after) program = gets_none

-- bytes that spell a program are read as its parts
reads_whole : (bytes : List ℕ) (size code : ℕ) (acts : List Act) → IsEarly bytes size acts code → whole_of (tokens_of bytes) ≡ Some (record { size = size; acts = acts; code = code }, [])
unfolding whole_of
reads_whole bytes size code acts early =
    ap whole_of early.tokens ∙ rw (reads_program early.letter size code acts early.is_letter early.allowed) refl

-- what a result says of the bytes that it was read from
pub found_only : (bytes : List ℕ) (result : Result Early EarlyFault) (after : Tokens) → length bytes ≤ 65536 → GivesSeen parts_of (whole_of (tokens_of bytes)) result after → IfOk result (λ e. IsEarly bytes e.size e.acts.items e.code)
found_only bytes (Ok e) after small gives =
    let program = (gets_whole (tokens_of bytes)).at (parts_of e) after gives in
    let spelled = program_tokens (program.letter ∷ []) e.size e.acts.items e.code in
    record { small = small; letter = program.letter; is_letter = program.is_letter; tokens = program.spelled ∙ append-nil spelled; allowed = program.allowed }
found_only bytes (Err fault) after small gives = tt

pub found_all : (bytes : List ℕ) (result : Result Early EarlyFault) (after : Tokens) → GivesSeen parts_of (whole_of (tokens_of bytes)) result after
    → (size : ℕ) (acts : List Act) (code : ℕ) → IsEarly bytes size acts code → MatchResult result (λ e. (e.size ≡ size) × (e.acts.items ≡ acts) × (e.code ≡ code)) (λ fault. fault ≡ OutOfMemory)
found_all bytes (Ok e) after gives size acts code early =
    let read : (record { size = size; acts = acts; code = code }, []) ≡ (parts_of e, after) = let spelled = reads_whole bytes size code acts early in cc in
    let P : Parts × Tokens → Type 0 = λ p. (p.0.size ≡ size) × (p.0.acts ≡ acts) × (p.0.code ≡ code) in
    subst P read (refl, refl, refl)
found_all bytes (Err Unbuilt) after gives size acts code early = let spelled = reads_whole bytes size code acts early in absurd (cc)
found_all bytes (Err OutOfMemory) after gives size acts code early = refl

pub parts_are_unique : PartsAreUnique
parts_are_unique bytes size code size' code' acts acts' one other =
    let first = reads_whole bytes size code acts one in
    let second = reads_whole bytes size' code' acts' other in
    let same : (record { size = size; acts = acts; code = code }, []) ≡ (record { size = size'; acts = acts'; code = code' }, []) = cc in
    let P : Parts × Tokens → Type 0 = λ p. (size ≡ p.0.size) × (acts ≡ p.0.acts) × (code ≡ p.0.code) in
    subst P same (refl, refl, refl)
