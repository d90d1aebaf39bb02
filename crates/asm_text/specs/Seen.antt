-- What the parts that the code passes around show: texts by their bytes.
use Rattle.asm_text.specs.declared.operands.Place.{Place as HeldPlace}
use Rattle.asm_text.specs.declared.operands.Named.{Named as HeldNamed}
use Rattle.asm_text.specs.Operands.{Place, Named}
use Rattle.asm_text.specs.declared.lines.Line.{Line as HeldLine}
use Rattle.asm_text.specs.Lines.{Line}

abbrev pub seen_place : HeldPlace → Place
seen_place p = record { m = p.m; fits = p.fits; name = p.name.now; addend = p.addend }

abbrev pub seen_named : HeldNamed → Named
seen_named x = record { operand = x.operand; name = x.name.now; addend = x.addend }

abbrev pub seen_line : HeldLine → Line
seen_line l = record { kind = l.kind; name = l.name.now; addend = l.addend; text = l.text.now }
