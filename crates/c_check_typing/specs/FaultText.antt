-- What a broken rule is called, and where it stands.
use Rattle.std.specs.Prelude.{ℕ, List, ◌++◌, codes}
use Rattle.std.specs.Fmt.{decimal}
use Rattle.c_check_typing.specs.declared.fault.CheckKind.{CheckKind}
use Rattle.c_check_typing.specs.declared.fault.CheckKind.TheVariants.{TooLarge, Unknown, Twice, BadType, BadCount, NotPlace, NotConst, ManyPointers, ManyParams, LargeCopy, FrameLarge, LargeData}
use Rattle.c_check_typing.specs.declared.fault.CheckFault.{CheckFault}
use Rattle.c_check_typing.specs.declared.fault.CheckFault.TheVariants.{Refused, OutOfMemory}

abbrev pub kind_text : CheckKind → List ℕ
kind_text TooLarge = codes "TooLarge"
kind_text Unknown = codes "Unknown"
kind_text Twice = codes "Twice"
kind_text BadType = codes "BadType"
kind_text BadCount = codes "BadCount"
kind_text NotPlace = codes "NotPlace"
kind_text NotConst = codes "NotConst"
kind_text ManyPointers = codes "ManyPointers"
kind_text ManyParams = codes "ManyParams"
kind_text LargeCopy = codes "LargeCopy"
kind_text FrameLarge = codes "FrameLarge"
kind_text LargeData = codes "LargeData"

-- a kind, with the line and column of its node's place
abbrev pub text_of : CheckFault → List ℕ
text_of (Refused kind place) = kind_text kind ++ codes " " ++ decimal place.line ++ codes ":" ++ decimal place.col
text_of OutOfMemory = codes "no memory"
