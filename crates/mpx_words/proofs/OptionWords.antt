-- The words before the file, one by one, are the words of options.
use Rattle.std.proofs.Common.{◌≡◌, ℕ, ◌^◌, ◌<◌, ◌≤◌, Bool, true, false, IsTrue, cond, map, Option, None, Some, Ok, Err, List, [], ◌∷◌, ◌++◌, length, refl, sym, ap, ◌∙◌, subst, arith}
use Rattle.std.specs.Prelude.{Result, fold, codes, nat_lt, nat_le, ◌&&◌}
use Rattle.std.specs.Option.{unwrap_or}
use Rattle.std.specs.Result.{result_ok}
use Rattle.std.specs.Str.{bytes_eq, all_ascii_digits}
use Rattle.std.specs.Str.Parse.{ParsesUnsigned, IsNumeral, digits_value, without_leading_plus}
use Rattle.std.proofs.lemmas.List.{map-append}
use Rattle.std.proofs.lemmas.Bool.Decides.{nat_tests}
use Rattle.std.proofs.lemmas.Str.Parse.{IsNumeralModel, numerals_by_value, tells_all_ascii_digits}
use Rattle.std.proofs.lemmas.Slice.Eq.{bytes_eq-Decides}
use Rattle.mpx_words.specs.declared.options.Settings.{Settings}
use Rattle.mpx_words.specs.declared.options.Picked.{Picked}
use Rattle.mpx_words.specs.declared.options.Seen.{Seen}
use Rattle.mpx_words.specs.declared.options.Seen.TheVariants.{Options, AwaitsTurns, AwaitsFrames, Refused}
use Rattle.mpx_words.specs.declared.options.TheConstants.{NOTHING}
use Rattle.mpx_words.specs.Words.{is_file_word}
use Rattle.mpx_words.specs.Options.{Choice, Turns, Frames, Preserve, Bare, spelled, all_spelled, is_number, number_of, turns_picked, frames_picked, pick, picks, and_then, settings_of, IsExec, fine, seen_after}

-- ---- numbers

own : IsNumeralModel (λ ds. all_ascii_digits ds ≡ true) (digits_value 10)
own = numerals_by_value (λ ds. all_ascii_digits ds ≡ true) tells_all_ascii_digits

abbrev is_numeral : List ℕ → Bool
is_numeral t = nat_lt 0 (length t) && all_ascii_digits t && nat_lt (digits_value 10 t) 0x1_0000_0000_0000_0000

both_true : (a b c : Bool) → a ≡ true → b ≡ true → c ≡ true → (a && b && c) ≡ true
both_true a b c p q r = rw (p, q, r)

parts_true : (a b c : Bool) → (a && b && c) ≡ true → (a ≡ true) × (b ≡ true) × (c ≡ true)
parts_true true true true e = (refl, refl, refl)
parts_true true true false e = absurd (cc)
parts_true true false c e = absurd (cc)
parts_true false b c e = absurd (cc)

small : (n : ℕ) → nat_lt n 0x1_0000_0000_0000_0000 ≡ true → n < 2 ^ 64
small n e = grind (arith, nat_tests, e)

is_small : (n : ℕ) → n < 2 ^ 64 → nat_lt n 0x1_0000_0000_0000_0000 ≡ true
is_small n h = grind (arith, nat_tests, h)

some : (n : ℕ) → nat_lt 0 n ≡ true → 0 < n
some n e = grind (arith, nat_tests, e)

is_some : (n : ℕ) → 0 < n → nat_lt 0 n ≡ true
is_some n h = grind (arith, nat_tests, h)

tells : (t : List ℕ) → IsNumeral 10 t × (digits_value 10 t < 2 ^ 64) → is_numeral t ≡ true
tells t h = both_true _ _ _ (is_some (length t) h.0.0) (own.from t h.0.1) (is_small (digits_value 10 t) h.1)

told : (t : List ℕ) → is_numeral t ≡ true → IsNumeral 10 t × (digits_value 10 t < 2 ^ 64)
told t e =
    let h = parts_true (nat_lt 0 (length t)) (all_ascii_digits t) (nat_lt (digits_value 10 t) 0x1_0000_0000_0000_0000) e in
    ((some (length t) h.0, own.to t h.1), small (digits_value 10 t) h.2)

chosen : (b : Bool) (n : ℕ) → b ≡ true → cond b (Some n) None ≡ Some n
chosen b n e = rw e

not_chosen : (b : Bool) (n : ℕ) → (b ≡ true → ⊥) → None ≡ cond b (Some n) None
not_chosen true n never = absurd (never refl)
not_chosen false n never = refl

-- what `parse` reads is the number of the word
pub number_parsed : {E : Type 0} (word : List ℕ) (r : Result ℕ E) → ParsesUnsigned 64 10 word r → result_ok r ≡ number_of word
number_parsed word (Ok n) h = ap Some h.1 ∙ sym (chosen (is_number word) _ (tells (without_leading_plus word) h.0))
number_parsed word (Err e) never = not_chosen (is_number word) _ (λ e. never (told (without_leading_plus word) e))

-- ---- options

-- words that options spell, which set this from what was set
pub record Rests (before : Picked) (words : List (List ℕ)) (after : Picked) : Type 0 where
  pub choices : List Choice
  pub spells : all_spelled choices ≡ words
  pub sets : picks choices before ≡ Some after

-- a number, and then such words
pub record RestsAfter (make : List ℕ → Choice) (before : Picked) (words : List (List ℕ)) (after : Picked) : Type 0 where
  pub word : List ℕ
  pub more : List (List ℕ)
  pub splits : words ≡ word ∷ more
  pub picked : Picked
  pub sets : pick (make word) before ≡ Some picked
  pub rests : Rests picked more after

abbrev Ends : Seen → List (List ℕ) → Picked → Type 0
Ends (Options before) words after = Rests before words after
Ends (AwaitsTurns before) words after = RestsAfter Turns before words after
Ends (AwaitsFrames before) words after = RestsAfter Frames before words after
Ends Refused words after = ⊥

record Fine (o : Option Picked) (words : List (List ℕ)) (after : Picked) : Type 0 where
  picked : Picked
  same : o ≡ Some picked
  rests : Rests picked words after

fine_ends : (o : Option Picked) (words : List (List ℕ)) (after : Picked) → Ends (fine o) words after → Fine o words after
fine_ends None words after h = absurd h
fine_ends (Some p) words after h = record { picked = p; same = refl; rests = h }

picked_then : (c : Choice) (cs : List Choice) (p q r : Picked) → pick c p ≡ Some q → picks cs q ≡ Some r → picks (c ∷ cs) p ≡ Some r
picked_then c cs p q r e h = rw e h

same_word : (word key : List ℕ) → bytes_eq word key ≡ true → key ≡ word
same_word word key e = sym ((bytes_eq-Decides word key).0 e)

numbered : (make : List ℕ → Choice) (key word : List ℕ) (words : List (List ℕ)) (p after : Picked) → ((w : List ℕ) → spelled (make w) ≡ key ∷ w ∷ []) → key ≡ word → RestsAfter make p words after → Rests p (word ∷ words) after
numbered make key word words p after how e h = record {
  choices = make h.word ∷ h.rests.choices;
  spells = ap (λ (front : List (List ℕ)). front ++ all_spelled h.rests.choices) (how h.word) ∙ (ap (λ (w : List ℕ). w ∷ h.word ∷ all_spelled h.rests.choices) e ∙ (ap (λ (ws : List (List ℕ)). word ∷ h.word ∷ ws) h.rests.spells ∙ ap (λ (ws : List (List ℕ)). word ∷ ws) (sym h.splits)));
  sets = picked_then (make h.word) h.rests.choices p h.picked after h.sets h.rests.sets;
}

flagged : (c : Choice) (key word : List ℕ) (words : List (List ℕ)) (p after : Picked) → spelled c ≡ key ∷ [] → key ≡ word → Fine (pick c p) words after → Rests p (word ∷ words) after
flagged c key word words p after how e h = record {
  choices = c ∷ h.rests.choices;
  spells = ap (λ (front : List (List ℕ)). front ++ all_spelled h.rests.choices) how ∙ (ap (λ (w : List ℕ). w ∷ all_spelled h.rests.choices) e ∙ ap (λ (ws : List (List ℕ)). word ∷ ws) h.rests.spells);
  sets = picked_then c h.rests.choices p h.picked after h.same h.rests.sets;
}

first_by : (p : Picked) (word : List ℕ) (words : List (List ℕ)) (after : Picked) (a b c d : Bool)
    → (a ≡ true → codes "--turns" ≡ word) → (b ≡ true → codes "--frames" ≡ word) → (c ≡ true → codes "--preserve" ≡ word) → (d ≡ true → codes "--bare" ≡ word)
    → Ends (cond a (AwaitsTurns p) (cond b (AwaitsFrames p) (cond c (fine (pick Preserve p)) (cond d (fine (pick Bare p)) Refused)))) words after → Rests p (word ∷ words) after
first_by p word words after true b c d ea eb ec ed h = numbered Turns (codes "--turns") word words p after (λ w. refl) (ea refl) h
first_by p word words after false true c d ea eb ec ed h = numbered Frames (codes "--frames") word words p after (λ w. refl) (eb refl) h
first_by p word words after false false true d ea eb ec ed h = flagged Preserve (codes "--preserve") word words p after refl (ec refl) (fine_ends (pick Preserve p) words after h)
first_by p word words after false false false true ea eb ec ed h = flagged Bare (codes "--bare") word words p after refl (ed refl) (fine_ends (pick Bare p) words after h)
first_by p word words after false false false false ea eb ec ed h = absurd h

after_number : (make : List ℕ → Choice) (p : Picked) (word : List ℕ) (words : List (List ℕ)) (after : Picked) → Fine (pick (make word) p) words after → RestsAfter make p (word ∷ words) after
after_number make p word words after h = record { word = word; more = words; splits = refl; picked = h.picked; sets = h.same; rests = h.rests }

back : (s : Seen) (word : List ℕ) (words : List (List ℕ)) (after : Picked) → Ends (seen_after s word) words after → Ends s (word ∷ words) after
back (Options p) word words after h = first_by p word words after _ _ _ _ (same_word word (codes "--turns")) (same_word word (codes "--frames")) (same_word word (codes "--preserve")) (same_word word (codes "--bare")) h
back (AwaitsTurns p) word words after h = after_number Turns p word words after (fine_ends (pick (Turns word) p) words after h)
back (AwaitsFrames p) word words after h = after_number Frames p word words after (fine_ends (pick (Frames word) p) words after h)
back Refused word words after h = absurd h

-- words that were seen as options are spelled by options
sound : (words : List (List ℕ)) (s : Seen) (after : Picked) → fold seen_after s words ≡ Options after → Ends s words after
sound [] (Options p) after e = record { choices = []; spells = refl; sets = cc }
sound [] (AwaitsTurns p) after e = absurd (cc)
sound [] (AwaitsFrames p) after e = absurd (cc)
sound [] Refused after e = absurd (cc)
sound (word ∷ words) s after e = back s word words after (sound words (seen_after s word) after e)

fine_goes : (o : Option Picked) (cs : List Choice) (after : Picked) → ((p : Picked) → picks cs p ≡ Some after → fold seen_after (Options p) (all_spelled cs) ≡ Options after) → and_then o (picks cs) ≡ Some after → fold seen_after (fine o) (all_spelled cs) ≡ Options after
fine_goes None cs after more e = absurd (cc)
fine_goes (Some p) cs after more e = more p e

-- words that options spell are seen as options
complete : (cs : List Choice) (p after : Picked) → picks cs p ≡ Some after → fold seen_after (Options p) (all_spelled cs) ≡ Options after
complete [] p after e = cc
complete (Turns w ∷ cs) p after e = fine_goes (pick (Turns w) p) cs after (λ q. complete cs q after) e
complete (Frames w ∷ cs) p after e = fine_goes (pick (Frames w) p) cs after (λ q. complete cs q after) e
complete (Preserve ∷ cs) p after e = fine_goes (pick Preserve p) cs after (λ q. complete cs q after) e
complete (Bare ∷ cs) p after e = fine_goes (pick Bare p) cs after (λ q. complete cs q after) e

-- ---- the command

snoc_same : {X : Type 0} (xs ys : List X) (x y : X) → xs ++ (x ∷ []) ≡ ys ++ (y ∷ []) → (xs ≡ ys) × (x ≡ y)
snoc_same [] [] x y e = (refl, cc)
snoc_same [] (b ∷ []) x y e = absurd (cc)
snoc_same [] (b ∷ c ∷ ys) x y e = absurd (cc)
snoc_same (a ∷ []) [] x y e = absurd (cc)
snoc_same (a ∷ c ∷ xs) [] x y e = absurd (cc)
snoc_same (a ∷ xs) (b ∷ ys) x y e =
    let tails : xs ++ (x ∷ []) ≡ ys ++ (y ∷ []) = cc in
    let heads : a ≡ b = cc in
    let h = snoc_same xs ys x y tails in
    ((cc (h.0, heads)), h.1)

pub exec_found : (words options : List (List ℕ)) (name file : List ℕ) (picked : Picked) → words ≡ name ∷ (options ++ (file ∷ [])) → name ≡ codes "exec" → IsTrue (is_file_word file) → fold seen_after (Options NOTHING) options ≡ Options picked → IsExec words (settings_of picked) file
exec_found words options name file picked e named is seen =
    let h : Rests NOTHING options picked = sound options (Options NOTHING) picked seen in
    record {
      choices = h.choices;
      picked = picked;
      spells = e ∙ (ap (λ (n : List ℕ). n ∷ (options ++ (file ∷ []))) named ∙ ap (λ (ws : List (List ℕ)). codes "exec" ∷ (ws ++ (file ∷ []))) (sym h.spells));
      sets = h.sets;
      same = refl;
      named = is;
    }

-- what the words of `exec` are
pub record Parts (options : List (List ℕ)) (name file : List ℕ) : Type 0 where
  pub named : name ≡ codes "exec"
  pub is_file : IsTrue (is_file_word file)
  pub picked : Picked
  pub seen : fold seen_after (Options NOTHING) options ≡ Options picked

pub exec_parts : (words options : List (List ℕ)) (name file : List ℕ) (settings : Settings) (f : List ℕ) → words ≡ name ∷ (options ++ (file ∷ [])) → IsExec words settings f → Parts options name file
exec_parts words options name file settings f e h =
    let both : name ∷ (options ++ (file ∷ [])) ≡ codes "exec" ∷ (all_spelled h.choices ++ (f ∷ [])) = sym e ∙ h.spells in
    let named : name ≡ codes "exec" = cc in
    let tails : options ++ (file ∷ []) ≡ all_spelled h.choices ++ (f ∷ []) = cc in
    let same = snoc_same options (all_spelled h.choices) file f tails in
    record {
      named = named;
      is_file = subst (λ (n : List ℕ). IsTrue (is_file_word n)) (sym same.1) h.named;
      picked = h.picked;
      seen = ap (fold seen_after (Options NOTHING)) same.0 ∙ complete h.choices NOTHING h.picked h.sets;
    }

no_snoc : {X : Type 0} (xs : List X) (x : X) → xs ++ (x ∷ []) ≡ [] → ⊥
no_snoc [] x e = cc
no_snoc (y ∷ xs) x e = cc

-- fewer than two words are no command
pub exec_short : (words : List (List ℕ)) (settings : Settings) (f : List ℕ) → length words ≤ 1 → IsExec words settings f → ⊥
exec_short [] settings f le h = let e = h.spells in cc
exec_short (name ∷ []) settings f le h =
    let tails : [] ≡ all_spelled h.choices ++ (f ∷ []) = cc h.spells in
    no_snoc (all_spelled h.choices) f (sym tails)
exec_short (name ∷ word ∷ words) settings f le h = absurd (omega arith)

-- the words of a list by its first, its last and those between
pub outer_words : {X : Type 0} (f : X → List ℕ) (words rest between : List X) (first last : X) → words ≡ first ∷ rest → rest ≡ between ++ (last ∷ []) → map f words ≡ f first ∷ (map f between ++ (f last ∷ []))
outer_words {X} f words rest between first last e h = ap (map f) (e ∙ ap (λ (t : List X). first ∷ t) h) ∙ ap (λ (t : List (List ℕ)). f first ∷ t) (map-append f between (last ∷ []))

-- ---- how many frames there may be

abbrev frames_in : Option ℕ → Type 0
frames_in None = Unit {0}
frames_in (Some n) = n ≤ 524288

at_most : (n : ℕ) → nat_le n 524288 ≡ true → n ≤ 524288
at_most n e = grind (arith, nat_tests, e)

second_true : (a b : Bool) → (a && b) ≡ true → b ≡ true
second_true true b e = e
second_true false b e = absurd (cc)

turns_keep : (before number : Option ℕ) (p q : Picked) → frames_in p.frames → turns_picked before number p ≡ Some q → frames_in q.frames
turns_keep None (Some n) p q h e = let same : record p { turns = Some n } ≡ q = cc in subst (λ (x : Picked). frames_in x.frames) same h
turns_keep None None p q h e = absurd (cc)
turns_keep (Some m) number p q h e = absurd (cc)

frames_tested : (b : Bool) (n : ℕ) (p q : Picked) → (b ≡ true → n ≤ 524288) → cond b (Some (record p { frames = Some n })) None ≡ Some q → frames_in q.frames
frames_tested true n p q few e = let same : record p { frames = Some n } ≡ q = cc in subst (λ (x : Picked). frames_in x.frames) same (few refl)
frames_tested false n p q few e = absurd (cc)

frames_keep : (before number : Option ℕ) (p q : Picked) → frames_picked before number p ≡ Some q → frames_in q.frames
frames_keep None (Some n) p q e = frames_tested _ n p q (λ t. at_most n (second_true (nat_le 16 n) (nat_le n 524288) t)) e
frames_keep None None p q e = absurd (cc)
frames_keep (Some m) number p q e = absurd (cc)

flag_keeps : (b : Bool) (r q : Picked) → frames_in r.frames → cond b None (Some r) ≡ Some q → frames_in q.frames
flag_keeps true r q h e = absurd (cc)
flag_keeps false r q h e = let same : r ≡ q = cc in subst (λ (x : Picked). frames_in x.frames) same h

pick_keeps : (c : Choice) (p q : Picked) → frames_in p.frames → pick c p ≡ Some q → frames_in q.frames
pick_keeps (Turns word) p q h e = turns_keep p.turns (number_of word) p q h e
pick_keeps (Frames word) p q h e = frames_keep p.frames (number_of word) p q e
pick_keeps Preserve p q h e = flag_keeps p.preserve (record p { preserve = true }) q h e
pick_keeps Bare p q h e = flag_keeps p.bare (record p { bare = true }) q h e

then_keeps : (o : Option Picked) (cs : List Choice) (q : Picked) → ((r : Picked) → o ≡ Some r → frames_in r.frames) → ((r : Picked) → frames_in r.frames → picks cs r ≡ Some q → frames_in q.frames) → and_then o (picks cs) ≡ Some q → frames_in q.frames
then_keeps None cs q first more e = absurd (cc)
then_keeps (Some r) cs q first more e = more r (first r refl) e

picks_keep : (cs : List Choice) (p q : Picked) → frames_in p.frames → picks cs p ≡ Some q → frames_in q.frames
picks_keep [] p q h e = let same : p ≡ q = cc in subst (λ (x : Picked). frames_in x.frames) same h
picks_keep (c ∷ cs) p q h e = then_keeps (pick c p) cs q (λ r. pick_keeps c p r h) (λ r. picks_keep cs r q) e

few_in : (o : Option ℕ) → frames_in o → unwrap_or o 65536 ≤ 524288
few_in None h = omega arith
few_in (Some n) h = h

pub exec_few : (words : List (List ℕ)) (settings : Settings) (f : List ℕ) → IsExec words settings f → settings.frames ≤ 524288
exec_few words settings f h = subst (λ (s : Settings). s.frames ≤ 524288) (sym h.same) (few_in h.picked.frames (picks_keep h.choices NOTHING h.picked tt h.sets))

-- words mean one command at most
pub exec_only : (words : List (List ℕ)) (s t : Settings) (f g : List ℕ) → IsExec words s f → IsExec words t g → (s ≡ t) × (f ≡ g)
exec_only words s t f g h k =
    let both : codes "exec" ∷ (all_spelled h.choices ++ (f ∷ [])) ≡ codes "exec" ∷ (all_spelled k.choices ++ (g ∷ [])) = sym h.spells ∙ k.spells in
    let tails : all_spelled h.choices ++ (f ∷ []) ≡ all_spelled k.choices ++ (g ∷ []) = cc in
    let same = snoc_same (all_spelled h.choices) (all_spelled k.choices) f g tails in
    let one : Options h.picked ≡ Options k.picked = sym (complete h.choices NOTHING h.picked h.sets) ∙ (ap (fold seen_after (Options NOTHING)) same.0 ∙ complete k.choices NOTHING k.picked k.sets) in
    let picked : h.picked ≡ k.picked = cc in
    (h.same ∙ (ap settings_of picked ∙ sym k.same), same.1)
