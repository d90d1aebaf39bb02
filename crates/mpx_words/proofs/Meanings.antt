-- Words mean at most one command, and a command's names and numbers are within their limits.
use Rattle.std.proofs.Common.{◌≡◌, ◌∙◌, ℕ, ◌≤◌, Bool, true, false, IsTrue, Some, List, [], ◌∷◌, length, refl, sym, ap, subst, arith}
use Rattle.std.specs.Prelude.{codes, nat_eq, if◌then◌else◌, nat_le, ◌&&◌, map, slice_index_or}
use Rattle.std.specs.Str.{bytes_eq}
use Rattle.std.proofs.lemmas.Bool.Decides.{nat_tests}
use Rattle.std.proofs.lemmas.Slice.Eq.{bytes_eq-Decides}
use Rattle.mpx_words.specs.declared.options.Settings.{Settings}
use Rattle.mpx_words.specs.declared.making.Making.{Making}
use Rattle.mpx_words.specs.declared.making.Making.TheVariants.{Migrate, Assemble}
use Rattle.mpx_words.specs.Commands.{Command, Run, Exec, Dis, Gen, Make, Link, Means, MeanNothing, Fits}
use Rattle.mpx_words.specs.Linking.{AreShort}
use Rattle.mpx_words.specs.Makings.{word_of}
use Rattle.mpx_words.specs.Options.{number_of}
use Rattle.mpx_words.specs.Words.{is_file_word, is_source_word, is_assembly_word, is_object_word, are_objects}
use Rattle.mpx_words.proofs.OptionWords.{exec_only, exec_few}

-- the first letter of the first word
abbrev first : List (List ℕ) → ℕ
first ((letter ∷ rest) ∷ words) = letter
first words = 0

gen_same : (words : List (List ℕ)) (n m : ℕ) → Means words (Gen n) → Means words (Gen m) → n ≡ m
gen_same words n m h k =
    let both : codes "gen" ∷ h.0 ∷ [] ≡ codes "gen" ∷ k.0 ∷ [] = sym h.1 ∙ k.1 in
    let word : h.0 ≡ k.0 = cc in
    let number : Some n ≡ Some m = sym h.2 ∙ (ap number_of word ∙ k.2) in
    cc

-- the commands, by what tells them apart
data Kind : Type 0 where
  Runs : Kind
  Executes : Kind
  Lists : Kind
  Generates : Kind
  Makes : Making → Kind
  Links : Kind

-- the kind of a first letter
abbrev kind_at : ℕ → Kind
kind_at n =
    if nat_eq n 114 then Runs else (if nat_eq n 101 then Executes else (if nat_eq n 100 then Lists else (if nat_eq n 103 then Generates
    else (if nat_eq n 109 then Makes Migrate else (if nat_eq n 97 then Makes Assemble else Links)))))

-- what a command of a kind has besides
abbrev Rest : Kind → Type 0
Rest Runs = List ℕ
Rest Executes = Settings × List ℕ
Rest Lists = List ℕ
Rest Generates = ℕ
Rest (Makes m) = List ℕ × List ℕ
Rest Links = List ℕ × List (List ℕ)

abbrev command : (k : Kind) → Rest k → Command
command Runs file = Run file
command Executes r = Exec r.0 r.1
command Lists file = Dis file
command Generates n = Gen n
command (Makes m) r = Make m r.0 r.1
command Links r = Link r.0 r.1

-- a command as its kind and the rest
record View (k : Kind) (c : Command) : Type 0 where
  rest : Rest k
  is : command k rest ≡ c

view_of : (words : List (List ℕ)) (letter : ℕ) (c : Command) → first words ≡ letter → View (kind_at letter) c → View (kind_at (first words)) c
view_of words letter c e v = subst (λ n. View (kind_at n) c) (sym e) v

view : (words : List (List ℕ)) (c : Command) → Means words c → View (kind_at (first words)) c
view words (Run file) h = view_of words 114 (Run file) (ap first h.0) (record { rest = file; is = refl })
view words (Exec settings file) h = view_of words 101 (Exec settings file) (ap first h.spells) (record { rest = (settings, file); is = refl })
view words (Dis file) h = view_of words 100 (Dis file) (ap first h.0) (record { rest = file; is = refl })
view words (Gen n) h = view_of words 103 (Gen n) (ap first h.1) (record { rest = n; is = refl })
view words (Make Migrate name file) h = view_of words 109 (Make Migrate name file) (ap first h.0) (record { rest = (name, file); is = refl })
view words (Make Assemble name file) h = view_of words 97 (Make Assemble name file) (ap first h.0) (record { rest = (name, file); is = refl })
view words (Link name files) h = view_of words 108 (Link name files) (ap first h.0) (record { rest = (name, files); is = refl })

-- two of a kind are the same
same_rest : (words : List (List ℕ)) (k : Kind) (r s : Rest k) → Means words (command k r) → Means words (command k s) → r ≡ s
same_rest words Runs r s h k = let both : codes "run" ∷ r ∷ [] ≡ codes "run" ∷ s ∷ [] = sym h.0 ∙ k.0 in cc
same_rest words Executes r s h k = let same = exec_only words r.0 s.0 r.1 s.1 h k in λ i. (same.0 i, same.1 i)
same_rest words Lists r s h k = let both : codes "dis" ∷ r ∷ [] ≡ codes "dis" ∷ s ∷ [] = sym h.0 ∙ k.0 in cc
same_rest words Generates r s h k = gen_same words r s h k
same_rest words (Makes m) r s h k =
    let both : word_of m ∷ codes "--out" ∷ r.0 ∷ r.1 ∷ [] ≡ word_of m ∷ codes "--out" ∷ s.0 ∷ s.1 ∷ [] = sym h.0 ∙ k.0 in
    let names : r.0 ≡ s.0 = cc in
    let files : r.1 ≡ s.1 = cc in
    λ i. (names i, files i)
same_rest words Links r s h k =
    let both : codes "link" ∷ codes "--out" ∷ r.0 ∷ r.1 ≡ codes "link" ∷ codes "--out" ∷ s.0 ∷ s.1 = sym h.0 ∙ k.0 in
    let names : r.0 ≡ s.0 = cc in
    let files : r.1 ≡ s.1 = cc in
    λ i. (names i, files i)

pub one_meaning : (words : List (List ℕ)) (c d : Command) → Means words c → Means words d → c ≡ d
one_meaning words c d h k =
    let v = view words c h in
    let w = view words d k in
    let same = same_rest words (kind_at (first words)) v.rest w.rest (subst (Means words) (sym v.is) h) (subst (Means words) (sym w.is) k) in
    sym v.is ∙ (ap (command (kind_at (first words))) same ∙ w.is)

-- lists of two words
pub two_words : {X : Type 0} (f : X → List ℕ) (xs : List X) (a b : X) → length xs ≡ 2 → a ≡ slice_index_or xs 0 a → b ≡ slice_index_or xs 1 b → map f xs ≡ f a ∷ f b ∷ []
two_words f (x ∷ y ∷ []) a b n e h = let p : a ≡ x = e in let q : b ≡ y = h in cc
two_words f [] a b n e h = absurd (omega (arith, n))
two_words f (x ∷ []) a b n e h = absurd (omega (arith, n))
two_words f (x ∷ y ∷ z ∷ xs) a b n e h = absurd (omega (arith, n))

pub mapped_length : {X : Type 0} (f : X → List ℕ) (xs : List X) → length (map f xs) ≡ length xs
mapped_length f [] = refl
mapped_length f (x ∷ xs) = let e : length (map f xs) ≡ length xs = mapped_length f xs in omega (arith, e)

pub apart_words : (a b : List ℕ) → bytes_eq a b ≡ false → a ≡ b → ⊥
apart_words a b e same = let equal : bytes_eq a b ≡ true = (bytes_eq-Decides a b).1 same in cc

-- words that mean no command of any kind
pub by_command : (words : List (List ℕ)) → ((settings : Settings) (file : List ℕ) → Means words (Exec settings file) → ⊥) → ((file : List ℕ) → Means words (Run file) → ⊥) → ((file : List ℕ) → Means words (Dis file) → ⊥)
    → ((n : ℕ) → Means words (Gen n) → ⊥) → ((m : Making) (name file : List ℕ) → Means words (Make m name file) → ⊥)
    → ((name : List ℕ) (files : List (List ℕ)) → Means words (Link name files) → ⊥) → MeanNothing words
by_command words exec run dis gen make link (Run file) h = run file h
by_command words exec run dis gen make link (Exec settings file) h = exec settings file h
by_command words exec run dis gen make link (Dis file) h = dis file h
by_command words exec run dis gen make link (Gen n) h = gen n h
by_command words exec run dis gen make link (Make m name file) h = make m name file h
by_command words exec run dis gen make link (Link name files) h = link name files h

-- ---- limits

at_most : (n : ℕ) → nat_le n 255 ≡ true → n ≤ 255
at_most n e = grind (arith, nat_tests, e)

middle : (a b c : Bool) → (a && b && c) ≡ true → b ≡ true
middle true true c e = refl
middle true false c e = absurd cc
middle false b c e = absurd cc

left : (a b : Bool) → (a && b) ≡ true → a ≡ true
left true b e = refl
left false b e = absurd cc

short : (word : List ℕ) → IsTrue (is_file_word word) → length word ≤ 255
short word h = at_most (length word) (middle _ _ _ h)

source_short : (word : List ℕ) → IsTrue (is_source_word word) → length word ≤ 255
source_short word h = short word (left (is_file_word word) _ h)

assembly_short : (word : List ℕ) → IsTrue (is_assembly_word word) → length word ≤ 255
assembly_short word h = short word (left (is_file_word word) _ h)

object_short : (word : List ℕ) → is_object_word word ≡ true → length word ≤ 255
object_short word h = short word (left (is_file_word word) _ h)

second : (a b : Bool) → (a && b) ≡ true → b ≡ true
second true b e = e
second false b e = absurd cc

all_short : (words : List (List ℕ)) → are_objects words ≡ true → AreShort words
all_short [] h = tt
all_short (word ∷ words) h = (object_short word (left (is_object_word word) _ h), all_short words (second (is_object_word word) _ h))

pub fits : (words : List (List ℕ)) (c : Command) → Means words c → Fits c
fits words (Run file) h = source_short file h.1
fits words (Exec settings file) h = (short file h.named, exec_few words settings file h)
fits words (Dis file) h = short file h.1
fits words (Gen n) h = h.4
fits words (Make Migrate name file) h = (short name h.1, short file h.2)
fits words (Make Assemble name file) h = (short name h.1, assembly_short file h.2)
fits words (Link name files) h = (h.4, all_short files h.2)
