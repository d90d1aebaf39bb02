-- What the work on a source of the early form does.
use Rattle.std.specs.Prelude.{◌≡◌, ℕ, Option, List}
use Rattle.c_reader.specs.EarlyMeaning.{EarlyRun}
use Rattle.mx_base.specs.Outside.{FileFacts, Adds, AddsFront, HasRisen}
use Rattle.mpx_words.specs.declared.end.End.{End}
use Rattle.mpx_words.specs.declared.end.End.TheVariants.{ReadFault, WriteFault, NoMemory}
use Rattle.mpx_words.specs.Due.{end_of, IsRunOf, IsRunOfText}
use Rattle.mpx_words.specs.Files.{Content, MayBe}

-- a program ran: a fault leaves a front of its output, and want of memory nothing
abbrev pub RunsProgram : EarlyRun → End → Option (List ℕ) → Option (List ℕ) → Type 0
RunsProgram run ReadFault held held' = ⊥
RunsProgram run NoMemory held held' = held' ≡ held
RunsProgram run WriteFault held held' = AddsFront held held' run.out
RunsProgram run end held held' = (end ≡ end_of run.ends) × Adds held held' run.out

-- the same of a text
abbrev pub RunsText : List ℕ → End → Option (List ℕ) → Option (List ℕ) → Type 0
RunsText bytes ReadFault held held' = ⊥
RunsText bytes NoMemory held held' = held' ≡ held
RunsText bytes WriteFault held held' = (out : List ℕ) × (end : End) × IsRunOfText bytes out end × AddsFront held held' out
RunsText bytes end held held' = (out : List ℕ) × IsRunOfText bytes out end × Adds held held' out

-- the same of a file
abbrev pub RunsSource : FileFacts → End → Option (List ℕ) → Option (List ℕ) → Type 0
RunsSource facts ReadFault held held' = held' ≡ held
RunsSource facts NoMemory held held' = held' ≡ held
RunsSource facts WriteFault held held' =
    (content : Content) × MayBe facts content × (out : List ℕ) × (end : End) × IsRunOf content out end × AddsFront held held' out
RunsSource facts end held held' =
    (content : Content) × MayBe facts content × (out : List ℕ) × IsRunOf content out end × Adds held held' out

-- the counts of read faults of the files and of faults of standard output
abbrev pub SourceCounts : End → ℕ → ℕ → ℕ → ℕ → Type 0
SourceCounts ReadFault reads reads' outs outs' = HasRisen reads reads' × (outs' ≡ outs)
SourceCounts WriteFault reads reads' outs outs' = (reads' ≡ reads) × HasRisen outs outs'
SourceCounts end reads reads' outs outs' = (reads' ≡ reads) × (outs' ≡ outs)

-- the work on a text reads no file
abbrev pub TextCounts : End → ℕ → ℕ → Type 0
TextCounts WriteFault outs outs' = HasRisen outs outs'
TextCounts end outs outs' = outs' ≡ outs
