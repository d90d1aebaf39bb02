-- Commands that make one file of another: their words, and what they make of a file's bytes.
use Rattle.std.specs.Prelude.{ℕ, Bool, List, codes}
use Rattle.asm_text.specs.Assembly.{assembled}
use Rattle.obj_file.specs.Image.{image_spelling}
use Rattle.obj_file.specs.Object.{object_spelling}
use Rattle.mpx_words.specs.declared.making.Making.{Making}
use Rattle.mpx_words.specs.declared.making.Making.TheVariants.{Migrate, Assemble}
use Rattle.mpx_words.specs.Files.{Form, by_form, made_of_lines}
use Rattle.mpx_words.specs.Words.{is_file_word, is_assembly_word}

-- the command's name
abbrev pub word_of : Making → List ℕ
word_of Migrate = codes "migrate"
word_of Assemble = codes "asm"

-- a word that names a file for it
abbrev pub takes : Making → List ℕ → Bool
takes Migrate word = is_file_word word
takes Assemble word = is_assembly_word word

-- what it makes of bytes: the newest form of the object or image that they spell; the spelling of a text's object
abbrev pub made_by : Making → Form (List ℕ)
made_by Migrate bytes = by_form object_spelling image_spelling bytes
made_by Assemble bytes = made_of_lines object_spelling (assembled bytes)
