-- A name's buffer is its name and zeros.
use Rattle.std.proofs.Common.{◌≡◌, ℕ, ◌-◌, List, ◌++◌, length, take, sym, ap, ◌∙◌, arith, length-take, take-append-drop}
use Rattle.std.specs.Prelude.{replicate}
use Rattle.pipe_tokens.specs.Naming.{HoldsName}

pub len_again : (bytes : List ℕ) (len : ℕ) → HoldsName bytes len → length (take len bytes) ≡ len
len_again bytes len h = omega (arith, length-take len bytes, h.width, h.fits)

pub bytes_again : (bytes : List ℕ) (len : ℕ) → HoldsName bytes len → take len bytes ++ replicate (32 - length (take len bytes)) 0 ≡ bytes
bytes_again bytes len h =
    ap (λ (n : ℕ). take len bytes ++ replicate (32 - n) 0) (len_again bytes len h) ∙ ap (λ (r : List ℕ). take len bytes ++ r) (sym h.padded)
    ∙ take-append-drop len bytes
