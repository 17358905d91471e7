-- Tags in words of 64 bits (this project's own form): bit j of word w belongs to granule 64 * w + j.
use Rattle.std.specs.Prelude.{◌≡◌, ◌≢◌, ℕ, Bool, List, [], ◌∷◌, ◌+◌, ◌*◌, ◌/◌, ◌%◌, ◌==◌, ◌&&◌, false, true, if◌then◌else◌, drop, map, not, slice_index, slice_index_or, take}
use Rattle.std.specs.Int.{bit_at}
use Rattle.std.specs.List.{enumerate_from}
use Rattle.tag_memory.specs.Cells.{Granule, may_hold_at}
use Rattle.tag_memory.specs.Extent.{page_granules, page_words}

-- f of each element and its index, which is counted from 0.
abbrev pub map_with_index : {X Y : Type 0} → (ℕ → X → Y) → List X → List Y
map_with_index f xs = map (λ at. f at.0 at.1) (enumerate_from 0 xs)

-- Whether bit j of a word is 1.
abbrev pub is_set : ℕ → ℕ → Bool
is_set word j = bit_at word j == 1

-- Whether the bit that belongs to granule i is 1 in these words.
abbrev pub is_set_for : List ℕ → ℕ → Bool
is_set_for words i = is_set (slice_index words (i / 64)) (i % 64)

-- The granules with these numbers, and with the tags of these words.
unfoldable pub granules_of : List ℕ → List ℕ → List Granule
granules_of numbers tags = map_with_index (λ i number. (number, is_set_for tags i)) numbers

-- The granules without the tags whose bits are 1 in these masks. Numbers and all other tags stay.
unfoldable pub without_tags : List ℕ → List Granule → List Granule
without_tags masks granules = map_with_index (λ i granule. (granule.0, granule.1 && not (is_set_for masks i))) granules

-- Granule i, without its tag where it is of this page and its bit is 1 in the page's masks, as the granule with this number
-- and tag.
abbrev pub without_page_tag : ℕ → List ℕ → ℕ → Granule → Granule
without_page_tag page masks i granule = (granule.0, granule.1 && not ((i / page_granules == page) && is_set_for masks (i % page_granules)))

-- Whether granule i is tagged.
abbrev pub is_tagged : List Granule → ℕ → Bool
is_tagged granules i = (slice_index_or granules i (0, false)).1

-- The number whose bits are these, bit 0 first.
abbrev pub number_of_bits : List Bool → ℕ
number_of_bits [] = 0
number_of_bits (bit ∷ bits) = (if bit then 1 else 0) + 2 * number_of_bits bits

-- The word of the tags of granules 64 * w to 64 * w + 63.
unfoldable pub tag_word : List Granule → ℕ → ℕ
tag_word granules w = number_of_bits (map (λ (granule : Granule). granule.1) (take 64 (drop (64 * w) granules)))

-- A tagged granule of a page.
pub record HasTag (granules : List Granule) (page : ℕ) : Type 0 where
  pub granule : ℕ
  pub inside : granule / page_granules ≡ page
  pub tag : is_tagged granules granule ≡ true

-- ---- words of pages

-- The words of the tags of a page are 0.
abbrev pub IsBlank : List ℕ → ℕ → Type 0
IsBlank words page = (w : ℕ) → w / page_words ≡ page → slice_index words w ≡ 0

-- One of them isn't.
pub record HasWord (words : List ℕ) (page : ℕ) : Type 0 where
  pub word : ℕ
  pub inside : word / page_words ≡ page
  pub some : slice_index words word ≢ 0

-- The words of each page that may hold no tags are 0.
unfoldable pub AreBlank : List ℕ → List Bool → Type 0
AreBlank words may_hold = (page : ℕ) → may_hold_at may_hold page ≡ false → IsBlank words page
