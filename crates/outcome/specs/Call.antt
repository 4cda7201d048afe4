-- What a call asks for, by the keying that it is of.
use Rattle.std.specs.Prelude.{Bool, true, false}
use Rattle.outcome.specs.declared.call.Keying.{Keying}
use Rattle.outcome.specs.declared.call.Keying.TheVariants.{Name, Cid}

-- whether the font is to be CID-keyed
abbrev pub is_cid : Keying → Bool
is_cid (Name encoding) = false
is_cid Cid = true

-- whether its encoding is asked for
abbrev pub asks : Keying → Bool
asks (Name encoding) = encoding
asks Cid = false
