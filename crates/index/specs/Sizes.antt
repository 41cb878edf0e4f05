-- How many bytes an index takes up, by the length of a digest, its name and how many elements each list has.
use Rattle.std.specs.Prelude.{ℕ, ◌+◌, ◌*◌, cond, List, length}
use Rattle.std.specs.Str.{bytes_eq}
use Rattle.der.specs.Headers.{header_size_of}
use Rattle.stamp_model.specs.Algorithms.{sha256_name}

-- an element with so many bytes of contents
abbrev pub framed_size_of : ℕ → ℕ
framed_size_of n = header_size_of n + n

-- a list of so many entries, each with a digest of `size` bytes
abbrev pub list_size_of : ℕ → ℕ → ℕ
list_size_of size count = framed_size_of (count * framed_size_of size)

-- the algorithm for a digest of this name
abbrev pub algorithm_size_of : List ℕ → ℕ
algorithm_size_of name = cond (bytes_eq name sha256_name) 0 (framed_size_of (framed_size_of (length name)))

-- the algorithm and the three lists
abbrev pub contents_size_of : ℕ → List ℕ → ℕ → ℕ → ℕ → ℕ
contents_size_of size name certificates revocations attributes =
    algorithm_size_of name + (list_size_of size certificates + (list_size_of size revocations + list_size_of size attributes))

abbrev pub index_size : ℕ → List ℕ → ℕ → ℕ → ℕ → ℕ
index_size size name certificates revocations attributes = framed_size_of (contents_size_of size name certificates revocations attributes)
