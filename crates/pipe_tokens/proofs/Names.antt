-- A name in its buffer.
use Rattle.std.proofs.Common.{◌≡◌, ℕ, ◌-◌, ◌≤◌, true, List, ◌++◌, length, take, drop, sym, refl, ap, subst, ◌∙◌, arith}
use Rattle.std.specs.Prelude.{IsTrue, replicate}
use Rattle.std.proofs.lemmas.List.{length-append, length-replicate, take_at, drop_at, drop-replicate}
use Rattle.std.proofs.lemmas.Bool.{and_parts, leb-true}
use Rattle.pipe_tokens.specs.Naming.{is_identifier, is_identifier_of_name_length, HoldsName}

-- a name has at most 32 bytes
pub short_name : (bytes : List ℕ) → is_identifier_of_name_length bytes ≡ true → length bytes ≤ 32
short_name bytes e = leb-true _ _ (and_parts (is_identifier bytes) _ e).1

pub holds_name : (bytes : List ℕ) → is_identifier_of_name_length bytes ≡ true → HoldsName (bytes ++ drop (length bytes) (replicate 32 0)) (length bytes)
holds_name bytes e =
    let short = short_name bytes e in
    let zeros : drop (length bytes) (replicate 32 0) ≡ replicate (32 - length bytes) 0 = drop-replicate (length bytes) 32 0 in
    let zeros_len : length (drop (length bytes) (replicate 32 0)) ≡ 32 - length bytes =
    ap length zeros ∙ length-replicate (32 - length bytes) 0 in
    record {
      width = omega (arith, short, length-append bytes (drop (length bytes) (replicate 32 0)), zeros_len);
      fits = short;
      name =
          let same : take (length bytes) (bytes ++ drop (length bytes) (replicate 32 0)) ≡ bytes =
          take_at bytes (drop (length bytes) (replicate 32 0)) (length bytes) refl in
          subst (λ (x : List ℕ). IsTrue (is_identifier_of_name_length x)) (sym same) e;
      padded = drop_at bytes (drop (length bytes) (replicate 32 0)) (length bytes) refl ∙ zeros;
    }
