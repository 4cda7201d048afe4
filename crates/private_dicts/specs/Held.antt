-- The program of the font that an FD or an FD array is of, and the entries of a Private DICT, as values that hold their bytes.
use Rattle.std.specs.Prelude.{List}
use Rattle.dict.specs.Dict.{Entry}
use Rattle.cff.specs.Reads.{private_of}
use Rattle.private_dicts.specs.declared.held.PrivateDict.{PrivateDict}

abbrev pub entries : PrivateDict → List Entry
entries d = (private_of d.bytes.now d.q).entries
