-- A bridge: what a token says, as the code has it.
use Rattle.pv_token.specs.declared.kinds.Kind.{Kind}
use Rattle.pv_token.specs.declared.kinds.Kind.TheVariants as kind
use Rattle.pv_token.specs.Said.{Number, Punctuator, Text, as_char, Character, Name, Said, Keyword}

-- What a token says (6.4p1), as the code has it: a character constant by its byte.
abbrev pub said_of : Kind → Said
said_of (kind.Keyword w) = Keyword w
said_of (kind.Name text) = Name text.now
said_of (kind.Number value decimal unsigned longs) = Number value decimal unsigned longs
said_of (kind.Character b) = Character (as_char b)
said_of (kind.Text bytes) = Text bytes.items
said_of (kind.Punctuator m) = Punctuator m
