-- What gdb is told of a machine: its registers and its memory, as XML, and pieces of such texts.
-- From gdb's manual, "Target Description Format", "RISC-V Features", "Memory Map Format" and "General Query Packets"; the names of registers from
-- the RISC-V calling convention.
use Rattle.std.specs.Prelude.{ℕ, zero, suc, ◌+◌, ◌-◌, ◌==◌, ◌||◌, nat_lt, if◌then◌else◌, List, [], ◌∷◌, ◌++◌, length, take, drop, codes}
use Rattle.std.specs.Fmt.{decimal}
use Rattle.memory.specs.Access.{text_start, data_start}

-- ---- elements

-- ` NAME="VALUE"`
unfoldable pub attribute : List ℕ → List ℕ → List ℕ
attribute name value = codes " " ++ name ++ codes "=\"" ++ value ++ codes "\""

-- `<NAME>`
unfoldable pub tag : List ℕ → List ℕ
tag name = codes "<" ++ name ++ codes ">\n"

unfoldable pub end : List ℕ
end = codes "/>\n"

-- ---- integer registers: x0 to x31, and the pc as number 32

unfoldable pub name_of : ℕ → List ℕ
name_of number =
    if number == 0 then codes "zero"
    else if number == 1 then codes "ra"
    else if number == 2 then codes "sp"
    else if number == 3 then codes "gp"
    else if number == 4 then codes "tp"
    else if number == 8 then codes "fp"
    else if number == 9 then codes "s1"
    else if nat_lt number 8 then codes "t" ++ decimal (number - 5)
    else if nat_lt number 18 then codes "a" ++ decimal (number - 10)
    else if nat_lt number 28 then codes "s" ++ decimal (number - 16)
    else codes "t" ++ decimal (number - 25)

-- `ra` has an address of code, and `sp`, `gp` and `tp` have addresses of data
unfoldable pub type_of : ℕ → List ℕ
type_of number =
    if number == 1 then codes "code_ptr"
    else if number == 2 || number == 3 || number == 4 then codes "data_ptr"
    else codes "int"

-- of this many bits, and with this number
unfoldable pub kind_of : List ℕ → List ℕ → ℕ → List ℕ
kind_of bits type number =
    attribute (codes "bitsize") bits ++ attribute (codes "type") type ++ attribute (codes "regnum") (decimal number) ++ end

abbrev pub register : List ℕ → List ℕ → List ℕ → ℕ → List ℕ
register name bits type number = codes "<reg" ++ attribute (codes "name") name ++ kind_of bits type number

unfoldable pub integer_line : ℕ → List ℕ
integer_line number = register (name_of number) (codes "32") (type_of number) number

-- the lines of the registers numbered below this many
unfoldable pub integer_lines : ℕ → List ℕ
integer_lines zero = []
integer_lines (suc number) = integer_lines number ++ integer_line number

unfoldable pub word_line : List ℕ → List ℕ → ℕ → List ℕ
word_line name type number = register name (codes "32") type number

abbrev pub pc_line : List ℕ
pc_line = word_line (codes "pc") (codes "code_ptr") 32

-- ---- vector registers: v0 to v31, as numbers 33 to 64

unfoldable pub vector_type : List ℕ → List ℕ → List ℕ → List ℕ
vector_type id type count =
    codes "<vector" ++ attribute (codes "id") id ++ attribute (codes "type") type ++ attribute (codes "count") count ++ end

unfoldable pub field : List ℕ → List ℕ → List ℕ
field name type = codes "<field" ++ attribute (codes "name") name ++ attribute (codes "type") type ++ end

unfoldable pub vector_types : List ℕ
vector_types =
    vector_type (codes "bytes") (codes "uint8") (codes "16")
    ++ vector_type (codes "shorts") (codes "uint16") (codes "8")
    ++ vector_type (codes "words") (codes "uint32") (codes "4")
    ++ vector_type (codes "longs") (codes "uint64") (codes "2")
    ++ vector_type (codes "quads") (codes "uint128") (codes "1")

unfoldable pub union_start : List ℕ
union_start = codes "<union id=\"rvv\">\n"

-- a register of 16 bytes is all of these
unfoldable pub vector_union : List ℕ
vector_union =
    union_start
    ++ field (codes "b") (codes "bytes")
    ++ field (codes "s") (codes "shorts")
    ++ field (codes "w") (codes "words")
    ++ field (codes "l") (codes "longs")
    ++ field (codes "q") (codes "quads")
    ++ tag (codes "/union")

unfoldable pub vector_name : ℕ → List ℕ
vector_name number = codes "v" ++ decimal number

unfoldable pub vector_line : ℕ → List ℕ
vector_line number =
    codes "<reg" ++ attribute (codes "name") (vector_name number) ++ attribute (codes "group") (codes "vector")
    ++ kind_of (codes "128") (codes "rvv") (number + 33)

unfoldable pub vector_lines : ℕ → List ℕ
vector_lines zero = []
vector_lines (suc number) = vector_lines number ++ vector_line number

-- vl and vtype, as numbers 65 and 66
unfoldable pub setting_lines : List ℕ
setting_lines = word_line (codes "vl") (codes "int") 65 ++ word_line (codes "vtype") (codes "int") 66

-- ---- the target description

unfoldable pub opening : List ℕ
opening = codes "<?xml version=\"1.0\"?>\n<!DOCTYPE target SYSTEM \"gdb-target.dtd\">\n<target version=\"1.0\">\n"

-- Without the osabi a gdb that was built for GNU/Linux takes the machine for that.
unfoldable pub machine : List ℕ
machine = codes "<architecture>riscv:rv32</architecture>\n<osabi>none</osabi>\n"

unfoldable pub feature : List ℕ → List ℕ
feature name = codes "<feature name=\"org.gnu.gdb.riscv." ++ name ++ codes "\">\n"

unfoldable pub cpu : List ℕ
cpu = feature (codes "cpu") ++ integer_lines 32 ++ pc_line ++ tag (codes "/feature")

unfoldable pub vectors : List ℕ
vectors = feature (codes "vector") ++ vector_types ++ vector_union ++ vector_lines 32 ++ tag (codes "/feature")

unfoldable pub settings : List ℕ
settings = feature (codes "csr") ++ setting_lines ++ tag (codes "/feature")

unfoldable pub description : List ℕ
description = opening ++ machine ++ cpu ++ vectors ++ settings ++ tag (codes "/target")

-- ---- the memory map

-- a region of this many bytes; none is said of one without bytes
unfoldable pub region : List ℕ → ℕ → ℕ → List ℕ
region kind start bytes =
    if bytes == 0 then []
    else codes "<memory" ++ attribute (codes "type") kind ++ attribute (codes "start") (decimal start) ++ attribute (codes "length") (decimal bytes) ++ end

-- text is read-only, so that gdb asks for breaks that need no write
unfoldable pub memory_map : ℕ → ℕ → List ℕ
memory_map text_bytes data_bytes =
    tag (codes "memory-map")
    ++ region (codes "rom") text_start text_bytes
    ++ region (codes "ram") data_start data_bytes
    ++ tag (codes "/memory-map")

-- ---- pieces

-- At most this many bytes from an offset on, after `m` (109) where more follow, and else after `l` (108).
abbrev pub piece_of : List ℕ → ℕ → ℕ → List ℕ
piece_of text offset count = (if nat_lt (offset + count) (length text) then 109 else 108) ∷ take count (drop offset text)
