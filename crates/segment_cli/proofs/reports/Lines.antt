-- What the program says of its faults, and the status that it ends with.
use Rattle.std.proofs.Common.{◌≡◌, refl, [], codes, arith}
use Rattle.std.proofs.lemmas.Fmt.{decimal_digit}
use Rattle.image_check.specs.declared.classes.ImageClass.TheVariants.{BadTag}
use Rattle.image_check.specs.declared.errors.MemoryFault.{MemoryFault}
use Rattle.grow_shrink.specs.declared.refusals.GrowError.TheVariants.{BadGrow}
use Rattle.segment_cli.specs.declared.faults.SessionFault.TheVariants.{Image, RegionTooSmall, OutOfMemory}
use Rattle.segment_cli.specs.declared.faults.ProgramFault.TheVariants.{Usage, Exists, Growth, Session}
use Rattle.segment_cli.specs.Reports.{fault_text, status_of}

image : fault_text (Session (Image BadTag)) ≡ codes "segment: image refused: 6 BadTag\n"
image = rw (decimal_digit 6 (omega arith)) refl

image_status : status_of (Session (Image BadTag)) ≡ 1
image_status = refl

growth : fault_text (Growth BadGrow) ≡ codes "segment: growth refused: BadGrow\n"
growth = refl

growth_status : status_of (Growth BadGrow) ≡ 1
growth_status = refl

exists : fault_text Exists ≡ codes "segment: file exists\n"
exists = refl

exists_status : status_of Exists ≡ 3
exists_status = refl

region : fault_text (Session RegionTooSmall) ≡ codes "segment: size refused\n"
region = refl

region_status : status_of (Session RegionTooSmall) ≡ 1
region_status = refl

memory : (refusal : MemoryFault) → fault_text (Session (OutOfMemory refusal)) ≡ codes "segment: out of memory\n"
memory refusal = refl

memory_status : (refusal : MemoryFault) → status_of (Session (OutOfMemory refusal)) ≡ 4
memory_status refusal = refl

usage : fault_text Usage ≡ []
usage = refl

usage_status : status_of Usage ≡ 2
usage_status = refl
