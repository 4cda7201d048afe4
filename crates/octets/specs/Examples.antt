-- Worked examples, computed.
use Rattle.std.specs.Prelude.{◌≡◌, refl, [], ◌∷◌}
use Rattle.octets.specs.Octets.{be, num_at, bytes_of, put}

two : num_at (9 ∷ 1 ∷ 2 ∷ 3 ∷ []) 1 2 ≡ 258
unfolding be num_at
two = refl

four : num_at (0xff ∷ 0xff ∷ 0xff ∷ 0xfe ∷ []) 0 4 ≡ 4294967294
unfolding be num_at
four = refl

three-bytes : bytes_of 3 65538 ≡ 1 ∷ 0 ∷ 2 ∷ []
unfolding bytes_of
three-bytes = refl

low-bytes : bytes_of 1 258 ≡ 2 ∷ []
unfolding bytes_of
low-bytes = refl

written : put (1 ∷ 2 ∷ 3 ∷ 4 ∷ []) 1 (8 ∷ 9 ∷ []) ≡ 1 ∷ 8 ∷ 9 ∷ 4 ∷ []
unfolding put
written = refl
