-- What is read between quotes is what is spelled there.
use Rattle.std.proofs.Common.{◌≡◌, ◌≢◌, ℕ, ◌+◌, ◌*◌, ◌≤◌, Bool, true, false, cond, ◌==◌, List, [], ◌∷◌, ◌++◌, length, take, Option, Some, None, refl, ap, ◌∙◌, sym, subst, arith, add-one}
use Rattle.std.specs.Char.{is_ascii_hexdigit}
use Rattle.std.specs.Int.{is_in_range}
use Rattle.std.proofs.lemmas.Bool.{eqb-true, eqb-false, eq-eqb, ne_eqb}
use Rattle.c_tokens.specs.declared.quotes.Reading.{Reading}
use Rattle.c_tokens.specs.declared.quotes.Reading.TheVariants.{Plain, Escape, High, Low}
use Rattle.c_tokens.specs.declared.quotes.Effect.{Effect}
use Rattle.c_tokens.specs.declared.quotes.Effect.TheVariants.{Closes, Reads, Gives, Refuses}
use Rattle.c_tokens.specs.Numbers.{digit_of}
use Rattle.c_tokens.specs.Quotes.{Quoted, step, escape_of, given, led_by, after_step, quoted_from}
use Rattle.c_tokens.specs.Lexical.{Spells, nothing, itself, escape, hexadecimal}

-- what was read of an escape that is not at its end
abbrev begun : Reading → List ℕ → List ℕ
begun Plain source = source
begun Escape source = 92 ∷ source
begun High source = 92 ∷ 120 ∷ source
begun (Low high) source = 92 ∷ 120 ∷ high ∷ source

abbrev IsFit : Reading → Type 0
IsFit Plain = Unit {0}
IsFit Escape = Unit {0}
IsFit High = Unit {0}
IsFit (Low high) = is_ascii_hexdigit high ≡ true

pub record IsRead (quote : ℕ) (reading : Reading) (z : List ℕ) (found : Quoted) : Type 0 where
  pub source : List ℕ
  pub is : take found.size z ≡ source ++ quote ∷ []
  pub spells : Spells quote (begun reading source) found.bytes
  pub within : found.size ≤ length z

-- one byte more
record IsLed (front : List ℕ) (rest : Option Quoted) (found : Quoted) : Type 0 where
  inner : Quoted
  is : rest ≡ Some inner
  whole : record { bytes = front ++ inner.bytes; size = inner.size + 1 } ≡ found

led_parts : (front : List ℕ) (rest : Option Quoted) (found : Quoted) → led_by front rest ≡ Some found → IsLed front rest found
led_parts front None found led = cc
led_parts front (Some inner) found led = record { inner = inner; is = refl; whole = cc }

module _ (quote : ℕ) (b : ℕ) (z : List ℕ) where
  one_more : (reading next : Reading) (front : List ℕ) (found : Quoted) → led_by front (quoted_from quote next z) ≡ Some found → ((inner : Quoted) → quoted_from quote next z ≡ Some inner → IsRead quote next z inner) → ((source bytes : List ℕ) → Spells quote (begun next source) bytes → Spells quote (begun reading (b ∷ source)) (front ++ bytes)) → IsRead quote reading (b ∷ z) found
  one_more reading next front found led go spelled =
      let parts = led_parts front (quoted_from quote next z) found led in
      let inner = parts.inner in
      let read = go inner parts.is in
      subst (λ f. IsRead quote reading (b ∷ z) f) parts.whole (record {
        source = b ∷ read.source;
        is = rw add-one (ap (λ xs. b ∷ xs) read.is);
        spells = spelled read.source inner.bytes read.spells;
        within = omega (arith, read.within);
      })

  plain : (found : Quoted) (closes escapes prints : Bool) → (b == quote) ≡ closes → (b == 92) ≡ escapes → is_in_range 32 126 b ≡ prints → ((next : Reading) (inner : Quoted) → IsFit next → quoted_from quote next z ≡ Some inner → IsRead quote next z inner) → after_step (cond closes Closes (cond escapes (Reads Escape) (cond prints (Gives b) Refuses))) (λ next. quoted_from quote next z) ≡ Some found → IsRead quote Plain (b ∷ z) found
  plain found true escapes prints c e p go is =
      let same : record { bytes = []; size = 1 } ≡ found = cc in
      subst (λ f. IsRead quote Plain (b ∷ z) f) same (record { source = []; is = ap (λ x. x ∷ []) (eqb-true b quote c); spells = nothing; within = omega arith })
  plain found false true prints c e p go is = one_more Plain Escape [] found is (λ inner. go Escape inner tt) (λ source bytes spelled. subst (λ x. Spells quote (x ∷ source) bytes) (sym (eqb-true b 92 e)) spelled)
  plain found false false true c e p go is = one_more Plain Plain (b ∷ []) found is (λ inner. go Plain inner tt) (λ source bytes spelled. itself p (eqb-false b quote c) (eqb-false b 92 e) spelled)
  plain found false false false c e p go is = cc

  after_escape : (found : Quoted) (hex : Bool) (letter : Option ℕ) → (b == 120) ≡ hex → escape_of b ≡ letter → ((next : Reading) (inner : Quoted) → IsFit next → quoted_from quote next z ≡ Some inner → IsRead quote next z inner) → after_step (cond hex (Reads High) (given letter)) (λ next. quoted_from quote next z) ≡ Some found → IsRead quote Escape (b ∷ z) found
  after_escape found true letter h l go is = one_more Escape High [] found is (λ inner. go High inner tt) (λ source bytes spelled. subst (λ x. Spells quote (92 ∷ x ∷ source) bytes) (sym (eqb-true b 120 h)) spelled)
  after_escape found false None h l go is = cc
  after_escape found false (Some v) h l go is = one_more Escape Plain (v ∷ []) found is (λ inner. go Plain inner tt) (λ source bytes spelled. escape l spelled)

  after_x : (found : Quoted) (hex : Bool) → is_ascii_hexdigit b ≡ hex → ((next : Reading) (inner : Quoted) → IsFit next → quoted_from quote next z ≡ Some inner → IsRead quote next z inner) → after_step (cond hex (Reads (Low b)) Refuses) (λ next. quoted_from quote next z) ≡ Some found → IsRead quote High (b ∷ z) found
  after_x found true h go is = one_more High (Low b) [] found is (λ inner. go (Low b) inner h) (λ source bytes spelled. spelled)
  after_x found false h go is = cc

  after_high : (found : Quoted) (high : ℕ) (hex : Bool) → is_ascii_hexdigit high ≡ true → is_ascii_hexdigit b ≡ hex → ((next : Reading) (inner : Quoted) → IsFit next → quoted_from quote next z ≡ Some inner → IsRead quote next z inner) → after_step (cond hex (Gives (16 * digit_of high + digit_of b)) Refuses) (λ next. quoted_from quote next z) ≡ Some found → IsRead quote (Low high) (b ∷ z) found
  after_high found high true fit h go is = one_more (Low high) Plain ((16 * digit_of high + digit_of b) ∷ []) found is (λ inner. go Plain inner tt) (λ source bytes spelled. hexadecimal fit h spelled)
  after_high found high false fit h go is = cc

pub is_read : (quote : ℕ) (reading : Reading) (z : List ℕ) (found : Quoted) → IsFit reading → quoted_from quote reading z ≡ Some found → IsRead quote reading z found
unfolding step
is_read quote reading [] found fit is = cc
is_read quote Plain (b ∷ z) found fit is = plain quote b z found (b == quote) (b == 92) (is_in_range 32 126 b) refl refl refl (λ next inner ok same. is_read quote next z inner ok same) is
is_read quote Escape (b ∷ z) found fit is = after_escape quote b z found (b == 120) (escape_of b) refl refl (λ next inner ok same. is_read quote next z inner ok same) is
is_read quote High (b ∷ z) found fit is = after_x quote b z found (is_ascii_hexdigit b) refl (λ next inner ok same. is_read quote next z inner ok same) is
is_read quote (Low high) (b ∷ z) found fit is = after_high quote b z found high (is_ascii_hexdigit b) fit refl (λ next inner ok same. is_read quote next z inner ok same) is

-- what each byte of a spelling does
unfolding_plain : (quote b : ℕ) (closes escapes prints : Bool) → (b == quote) ≡ closes → (b == 92) ≡ escapes → is_in_range 32 126 b ≡ prints → step quote Plain b ≡ cond closes Closes (cond escapes (Reads Escape) (cond prints (Gives b) Refuses))
unfolding step
unfolding_plain quote b closes escapes prints c e p = rw (c, e, p) refl

step_closes : (quote : ℕ) → step quote Plain quote ≡ Closes
step_closes quote = unfolding_plain quote quote true (quote == 92) (is_in_range 32 126 quote) (eq-eqb quote quote refl) refl refl

step_itself : (quote b : ℕ) → is_in_range 32 126 b ≡ true → b ≢ quote → b ≢ 92 → step quote Plain b ≡ Gives b
step_itself quote b prints apart bare = unfolding_plain quote b false false true (ne_eqb b quote apart) (ne_eqb b 92 bare) prints

step_escapes : (quote : ℕ) → quote ≢ 92 → step quote Plain 92 ≡ Reads Escape
step_escapes quote other = unfolding_plain quote 92 false true (is_in_range 32 126 92) (ne_eqb 92 quote (λ e. other (sym e))) refl refl

letter_gives : (letter b : ℕ) (hex : Bool) → (letter == 120) ≡ hex → escape_of letter ≡ Some b → cond hex (Reads High) (given (escape_of letter)) ≡ Gives b
letter_gives letter b true h is = let none : escape_of letter ≡ None = ap escape_of (eqb-true letter 120 h) in cc
letter_gives letter b false h is = ap given is

step_letter : (quote letter b : ℕ) → escape_of letter ≡ Some b → step quote Escape letter ≡ Gives b
unfolding step
step_letter quote letter b is = letter_gives letter b (letter == 120) refl is

step_high : (quote high : ℕ) → is_ascii_hexdigit high ≡ true → step quote High high ≡ Reads (Low high)
unfolding step
step_high quote high is = rw is refl

step_x : (quote : ℕ) → step quote Escape 120 ≡ Reads High
unfolding step
step_x quote = refl

step_low : (quote high low : ℕ) → is_ascii_hexdigit low ≡ true → step quote (Low high) low ≡ Gives (16 * digit_of high + digit_of low)
unfolding step
step_low quote high low is = rw is refl

module _ (quote : ℕ) (z : List ℕ) where
  goes : (reading : Reading) (b : ℕ) (effect : Effect) → step quote reading b ≡ effect → quoted_from quote reading (b ∷ z) ≡ after_step effect (λ next. quoted_from quote next z)
  goes reading b effect is = ap (λ e. after_step e (λ next. quoted_from quote next z)) is

  gives : (reading : Reading) (b v n : ℕ) (bytes : List ℕ) → step quote reading b ≡ Gives v → quoted_from quote Plain z ≡ Some (record { bytes = bytes; size = n }) → quoted_from quote reading (b ∷ z) ≡ Some (record { bytes = v ∷ bytes; size = n + 1 })
  gives reading b v n bytes is rest = goes reading b (Gives v) is ∙ ap (led_by (v ∷ [])) rest

  leads : (reading next : Reading) (b n : ℕ) (bytes : List ℕ) → step quote reading b ≡ Reads next → quoted_from quote next z ≡ Some (record { bytes = bytes; size = n }) → quoted_from quote reading (b ∷ z) ≡ Some (record { bytes = bytes; size = n + 1 })
  leads reading next b n bytes is rest = goes reading b (Reads next) is ∙ ap (led_by []) rest

-- one more than a size
sized : (bytes : List ℕ) (m n : ℕ) → m ≡ n → ◌≡◌ {A = Option Quoted} (Some (record { bytes = bytes; size = m })) (Some (record { bytes = bytes; size = n }))
sized bytes m n same = ap (λ k. Some (record { bytes = bytes; size = k })) same

pub is_quoted : (quote : ℕ) (source bytes rest : List ℕ) → quote ≢ 92 → Spells quote source bytes → quoted_from quote Plain (source ++ quote ∷ rest) ≡ Some (record { bytes = bytes; size = length source + 1 })
is_quoted quote source bytes rest other nothing = goes quote rest Plain quote Closes (step_closes quote)
is_quoted quote source bytes rest other (itself {b = b} {source = source'} {bytes = bytes'} prints apart bare more) =
    gives quote (source' ++ quote ∷ rest) Plain b b (length source' + 1) bytes' (step_itself quote b prints apart bare) (is_quoted quote source' bytes' rest other more)
    ∙ sized (b ∷ bytes') (length source' + 1 + 1) (length (b ∷ source') + 1) (omega arith)
is_quoted quote source bytes rest other (escape {letter = letter} {b = b} {source = source'} {bytes = bytes'} is more) =
    let inner = gives quote (source' ++ quote ∷ rest) Escape letter b (length source' + 1) bytes' (step_letter quote letter b is) (is_quoted quote source' bytes' rest other more) in
    leads quote (letter ∷ source' ++ quote ∷ rest) Plain Escape 92 (length source' + 1 + 1) (b ∷ bytes') (step_escapes quote other) inner
    ∙ sized (b ∷ bytes') (length source' + 1 + 1 + 1) (length (92 ∷ letter ∷ source') + 1) (omega arith)
is_quoted quote source bytes rest other (hexadecimal {high = high} {low = low} {source = source'} {bytes = bytes'} is_high is_low more) =
    let v = 16 * digit_of high + digit_of low in
    let n = length source' + 1 in
    let after_low = gives quote (source' ++ quote ∷ rest) (Low high) low v n bytes' (step_low quote high low is_low) (is_quoted quote source' bytes' rest other more) in
    let after_high = leads quote (low ∷ source' ++ quote ∷ rest) High (Low high) high (n + 1) (v ∷ bytes') (step_high quote high is_high) after_low in
    let after_x = leads quote (high ∷ low ∷ source' ++ quote ∷ rest) Escape High 120 (n + 1 + 1) (v ∷ bytes') (step_x quote) after_high in
    leads quote (120 ∷ high ∷ low ∷ source' ++ quote ∷ rest) Plain Escape 92 (n + 1 + 1 + 1) (v ∷ bytes') (step_escapes quote other) after_x
    ∙ sized (v ∷ bytes') (n + 1 + 1 + 1 + 1) (length (92 ∷ 120 ∷ high ∷ low ∷ source') + 1) (omega arith)
