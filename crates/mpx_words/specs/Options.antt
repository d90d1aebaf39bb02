-- The words of `exec`: options, each at most once, and then a file.
use Rattle.std.specs.Prelude.{◌≡◌, ℕ, Bool, true, IsTrue, ◌&&◌, nat_lt, nat_le, if◌then◌else◌, Option, None, Some, List, [], ◌∷◌, ◌++◌, length, codes}
use Rattle.std.specs.Option.{unwrap_or}
use Rattle.std.specs.Str.{bytes_eq, all_ascii_digits}
use Rattle.std.specs.Str.Parse.{digits_value, without_leading_plus}
use Rattle.mpx_words.specs.declared.options.Settings.{Settings}
use Rattle.mpx_words.specs.declared.options.Picked.{Picked}
use Rattle.mpx_words.specs.declared.options.Seen.{Seen}
use Rattle.mpx_words.specs.declared.options.Seen.TheVariants.{Options, AwaitsTurns, AwaitsFrames, Refused}
use Rattle.mpx_words.specs.declared.options.TheConstants.{NOTHING}
use Rattle.mpx_words.specs.Words.{is_file_word}

-- ---- what the words mean

-- an option, with the word of its number
pub data Choice : Type 0 where
  Turns : List ℕ → Choice
  Frames : List ℕ → Choice
  Preserve : Choice
  Bare : Choice

-- how an option is written
abbrev pub spelled : Choice → List (List ℕ)
spelled (Turns word) = codes "--turns" ∷ word ∷ []
spelled (Frames word) = codes "--frames" ∷ word ∷ []
spelled Preserve = codes "--preserve" ∷ []
spelled Bare = codes "--bare" ∷ []

abbrev pub all_spelled : List Choice → List (List ℕ)
all_spelled [] = []
all_spelled (c ∷ cs) = spelled c ++ all_spelled cs

-- digits, with a plus before them or not, of a number below 2^64
abbrev pub is_number : List ℕ → Bool
is_number word = nat_lt 0 (length (without_leading_plus word)) && all_ascii_digits (without_leading_plus word) && nat_lt (digits_value 10 (without_leading_plus word)) 0x1_0000_0000_0000_0000

abbrev pub number_of : List ℕ → Option ℕ
number_of word = if is_number word then Some (digits_value 10 (without_leading_plus word)) else None

-- what a number sets that nothing has set before
abbrev pub turns_picked : Option ℕ → Option ℕ → Picked → Option Picked
turns_picked None (Some n) picked = Some (record picked { turns = Some n })
turns_picked before number picked = None

-- and between 16 and 524,288 for frames
abbrev pub frames_picked : Option ℕ → Option ℕ → Picked → Option Picked
frames_picked None (Some n) picked = if nat_le 16 n && nat_le n 524288 then Some (record picked { frames = Some n }) else None
frames_picked before number picked = None

-- what an option sets, if no option before has set it and its number may stand
abbrev pub pick : Choice → Picked → Option Picked
pick (Turns word) picked = turns_picked picked.turns (number_of word) picked
pick (Frames word) picked = frames_picked picked.frames (number_of word) picked
pick Preserve picked = if picked.preserve then None else Some (record picked { preserve = true })
pick Bare picked = if picked.bare then None else Some (record picked { bare = true })

abbrev pub and_then : Option Picked → (Picked → Option Picked) → Option Picked
and_then None more = None
and_then (Some picked) more = more picked

-- what options set, one after another
abbrev pub picks : List Choice → Picked → Option Picked
picks [] picked = Some picked
picks (c ∷ cs) picked = and_then (pick c picked) (picks cs)

-- the settings, with their defaults
abbrev pub settings_of : Picked → Settings
settings_of picked = record { turns = unwrap_or picked.turns 10000000; frames = unwrap_or picked.frames 65536; preserve = picked.preserve; bare = picked.bare }

-- words that are `exec`, options, and a file
pub record IsExec (words : List (List ℕ)) (settings : Settings) (file : List ℕ) : Type 0 where
  pub choices : List Choice
  pub picked : Picked
  pub spells : words ≡ codes "exec" ∷ (all_spelled choices ++ (file ∷ []))
  pub sets : picks choices NOTHING ≡ Some picked
  pub same : settings ≡ settings_of picked
  pub named : IsTrue (is_file_word file)

-- words that are not so
abbrev pub IsNoExec : List (List ℕ) → Type 0
IsNoExec words = (settings : Settings) (file : List ℕ) → IsExec words settings file → ⊥

-- ---- word by word

abbrev pub fine : Option Picked → Seen
fine None = Refused
fine (Some picked) = Options picked

-- an option's word after whole options
abbrev pub seen_first : Picked → List ℕ → Seen
seen_first picked word =
    if bytes_eq word (codes "--turns") then AwaitsTurns picked
    else if bytes_eq word (codes "--frames") then AwaitsFrames picked
    else if bytes_eq word (codes "--preserve") then fine (pick Preserve picked)
    else if bytes_eq word (codes "--bare") then fine (pick Bare picked)
    else Refused

abbrev pub seen_after : Seen → List ℕ → Seen
seen_after (Options picked) word = seen_first picked word
seen_after (AwaitsTurns picked) word = fine (pick (Turns word) picked)
seen_after (AwaitsFrames picked) word = fine (pick (Frames word) picked)
seen_after Refused word = Refused
