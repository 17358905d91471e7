-- A number of 16 bytes, written in two halves.
use Rattle.std.proofs.Common.{◌≡◌, ◌∙◌, ◌≤◌, ◌+◌, ◌/◌, ◌%◌, ◌^◌, ℕ, List, [], ◌∷◌, ◌++◌, length, sym, subst, arith}
use Rattle.byteorder.specs.Endian.{little_bytes}
use Rattle.state_bytes.specs.Writing.{IsWritten}
use Rattle.state_bytes.proofs.SameTexts.{length_little}
use Rattle.state_bytes.proofs.WritingLaws.{written_two}

-- A number of 16 bytes is written in two halves.
halves : (n : ℕ) → little_bytes 16 n ≡ little_bytes 8 (n % 2 ^ 64) ++ little_bytes 8 (n / 2 ^ 64)
halves n =
    let b0 : n % 256 ≡ n % 18446744073709551616 % 256 = omega arith in
    let b1 : n / 256 % 256 ≡ n % 18446744073709551616 / 256 % 256 = omega arith in
    let b2 : n / 65536 % 256 ≡ n % 18446744073709551616 / 65536 % 256 = omega arith in
    let b3 : n / 16777216 % 256 ≡ n % 18446744073709551616 / 16777216 % 256 = omega arith in
    let b4 : n / 4294967296 % 256 ≡ n % 18446744073709551616 / 4294967296 % 256 = omega arith in
    let b5 : n / 1099511627776 % 256 ≡ n % 18446744073709551616 / 1099511627776 % 256 = omega arith in
    let b6 : n / 281474976710656 % 256 ≡ n % 18446744073709551616 / 281474976710656 % 256 = omega arith in
    let b7 : n / 72057594037927936 % 256 ≡ n % 18446744073709551616 / 72057594037927936 % 256 = omega arith in
    let b8 : n / 18446744073709551616 % 256 ≡ n / 18446744073709551616 % 256 = omega arith in
    let b9 : n / 4722366482869645213696 % 256 ≡ n / 18446744073709551616 / 256 % 256 = omega arith in
    let b10 : n / 1208925819614629174706176 % 256 ≡ n / 18446744073709551616 / 65536 % 256 = omega arith in
    let b11 : n / 309485009821345068724781056 % 256 ≡ n / 18446744073709551616 / 16777216 % 256 = omega arith in
    let b12 : n / 79228162514264337593543950336 % 256 ≡ n / 18446744073709551616 / 4294967296 % 256 = omega arith in
    let b13 : n / 20282409603651670423947251286016 % 256 ≡ n / 18446744073709551616 / 1099511627776 % 256 = omega arith in
    let b14 : n / 5192296858534827628530496329220096 % 256 ≡ n / 18446744073709551616 / 281474976710656 % 256 = omega arith in
    let b15 : n / 1329227995784915872903807060280344576 % 256 ≡ n / 18446744073709551616 / 72057594037927936 % 256 = omega arith in
    λ j. b0 j ∷ b1 j ∷ b2 j ∷ b3 j ∷ b4 j ∷ b5 j ∷ b6 j ∷ b7 j ∷ b8 j ∷ b9 j ∷ b10 j ∷ b11 j ∷ b12 j ∷ b13 j ∷ b14 j ∷ b15 j ∷ []

pub halves_written : (a b c : List ℕ) (at n low high : ℕ) → at + 16 ≤ length a → low ≡ n % 2 ^ 64 → high ≡ n / 2 ^ 64 → IsWritten a at (little_bytes 8 low) b → IsWritten b (at + 8) (little_bytes 8 high) c
    → IsWritten a at (little_bytes 16 n) c
halves_written a b c at n low high inside low_is high_is first second =
    let s = length_little 8 low in
    let same : little_bytes 16 n ≡ little_bytes 8 low ++ little_bytes 8 high = halves n ∙ (λ j. little_bytes 8 (sym low_is j) ++ little_bytes 8 (sym high_is j)) in
    subst (λ (l : List ℕ). IsWritten a at l c) (sym same) (written_two a b c (little_bytes 8 low) (little_bytes 8 high) at (at + 8) (omega (arith, inside, s)) (omega (arith, s)) first second)
