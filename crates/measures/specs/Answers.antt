-- A kernel run on two columns: its answer as a number, and what it leaves.
use Rattle.std.specs.Prelude.{ℕ, max, cond, nat_le, nat_eq, List}
use Rattle.std.specs.Cmp.Lexicographic.{pointwise}
use Rattle.std.specs.Simd.Lanes.{zip2}
use Rattle.lanes.specs.Kernels.{greatest, over, count_true, packed}
use Rattle.measures.specs.declared.kernels.kernel.Kernel.{Kernel}
use Rattle.measures.specs.declared.kernels.kernel.Kernel.TheVariants.{AllLe, AllEq, MaxInto, Greatest, MaskOver, CountOver}

-- the answer: 1 for yes, and 0 if there is none
abbrev pub answer_of : Kernel → List ℕ → List ℕ → ℕ
answer_of AllLe first second = cond (pointwise nat_le first second) 1 0
answer_of AllEq first second = cond (pointwise nat_eq first second) 1 0
answer_of MaxInto first second = 0
answer_of Greatest first second = greatest first
answer_of MaskOver first second = 0
answer_of CountOver first second = count_true (over first second)

-- the first column afterwards
abbrev pub column_after : Kernel → List ℕ → List ℕ → List ℕ
column_after AllLe first second = first
column_after AllEq first second = first
column_after MaxInto first second = zip2 max first second
column_after Greatest first second = first
column_after MaskOver first second = first
column_after CountOver first second = first

-- the mask afterwards
abbrev pub mask_after : Kernel → List ℕ → List ℕ → List ℕ → List ℕ
mask_after AllLe first second mask = mask
mask_after AllEq first second mask = mask
mask_after MaxInto first second mask = mask
mask_after Greatest first second mask = mask
mask_after MaskOver first second mask = packed (over first second)
mask_after CountOver first second mask = mask
