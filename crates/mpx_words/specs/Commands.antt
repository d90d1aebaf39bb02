-- Which words mean which command.
use Rattle.std.specs.Prelude.{◌≡◌, ℕ, ◌≤◌, IsTrue, Some, List, [], ◌∷◌, ◌<◌, ◌^◌, map, string_bytes, length, codes}
use Rattle.mpx_words.specs.declared.options.Settings.{Settings}
use Rattle.mpx_words.specs.declared.command.Command.{Command as Chosen}
use Rattle.mpx_words.specs.declared.command.Command.TheVariants as chosen
use Rattle.mpx_words.specs.declared.making.Making.{Making}
use Rattle.mpx_words.specs.Linking.{AreShort}
use Rattle.mpx_words.specs.Makings.{word_of, takes}
use Rattle.mpx_words.specs.Options.{IsExec, number_of}
use Rattle.mpx_words.specs.Words.{is_file_word, is_source_word, are_objects}

-- a command with its options and files
pub data Command : Type 0 where
  Run : (file : List ℕ) → Command
  Exec : Settings → (file : List ℕ) → Command
  Dis : (file : List ℕ) → Command
  Gen : ℕ → Command
  Make : Making → (name file : List ℕ) → Command
  Link : (name : List ℕ) → (files : List (List ℕ)) → Command

-- the words after the program's name mean a command
abbrev pub Means : List (List ℕ) → Command → Type 0
Means words (Run file) = (words ≡ codes "run" ∷ file ∷ []) × IsTrue (is_source_word file)
Means words (Exec settings file) = IsExec words settings file
Means words (Dis file) = (words ≡ codes "dis" ∷ file ∷ []) × IsTrue (is_file_word file)
Means words (Gen n) =
    (word : List ℕ) × (words ≡ codes "gen" ∷ word ∷ []) × (number_of word ≡ Some n) × (1 ≤ n) × (n ≤ 200)
Means words (Make m name file) =
    (words ≡ word_of m ∷ codes "--out" ∷ name ∷ file ∷ []) × IsTrue (is_file_word name) × IsTrue (takes m file)
Means words (Link name files) =
    (words ≡ codes "link" ∷ codes "--out" ∷ name ∷ files) × IsTrue (is_file_word name) × IsTrue (are_objects files)
    × (1 ≤ length files) × (length files < 2 ^ 32)

-- they mean none
abbrev pub MeanNothing : List (List ℕ) → Type 0
MeanNothing words = (c : Command) → Means words c → ⊥

-- the files that a command reads, in order
abbrev pub files_of : Command → List (List ℕ)
files_of (Run file) = file ∷ []
files_of (Exec settings file) = file ∷ []
files_of (Dis file) = file ∷ []
files_of (Gen n) = []
files_of (Make m name file) = file ∷ []
files_of (Link name files) = files

-- ---- as the code has it

abbrev pub command_of : Chosen → Command
command_of (chosen.Run file) = Run file.now
command_of (chosen.Exec settings file) = Exec settings file.now
command_of (chosen.Dis file) = Dis file.now
command_of (chosen.Gen n) = Gen n
command_of (chosen.Make m name file) = Make m name.now file.now
command_of (chosen.Link name files) = Link name.now (map string_bytes files.now)

-- names are short, and numbers within their limits
abbrev pub Fits : Command → Type 0
Fits (Run file) = length file ≤ 255
Fits (Exec settings file) = (length file ≤ 255) × (settings.frames ≤ 524288)
Fits (Dis file) = length file ≤ 255
Fits (Gen n) = n ≤ 200
Fits (Make m name file) = (length name ≤ 255) × (length file ≤ 255)
Fits (Link name files) = (length files < 2 ^ 32) × AreShort files
