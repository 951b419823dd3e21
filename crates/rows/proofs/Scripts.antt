-- Whole scripts: what they print. Each is computed from the empty directory of a size.
use Rattle.std.proofs.Common.{◌≡◌, refl, codes}
use Rattle.raw_region.specs.Format.{current}
use Rattle.segment_manager.specs.declared.modes.Mode.TheVariants.{Write, ReadOnly}
use Rattle.segment_manager.specs.Directory.{empty}
use Rattle.segment_lang.specs.Language.{whole_language}
use Rattle.segment_cli.specs.Run.{run}

-- the first run
first_run : (run (whole_language 2) Write (empty 1024) (codes "construct i64 - 5\nshow #144\nfree\n")).0
    ≡ codes "#144\ni64 5\n832\n"
unfolding run
first_run = refl

-- a number under a name: its index takes the first block
named_number : (run (whole_language 2) Write (empty 1024) (codes "construct i64 a 5\nfree\nshow a\ninfo a\n")).0
    ≡ codes "#192\n784\ni64 5\nnamed a i64 1 #192\n"
unfolding run
named_number = refl

-- where the object has no fit, the index that was asked for before it is given back
refused_object : (run (whole_language 2) Write (empty 224)
    (codes "construct i64 a 5\nfree\nconstruct i64 - 5\nfree\n")).0
    ≡ codes "error 9 no space\n80\n#144\n32\n"
unfolding run
refused_object = refl

-- a block keeps a remainder that is no block
small_remainder : (run (whole_language 2) Write (empty 208)
    (codes "construct i64 - 5\nfree\ndestroy_ptr #144\nfree\ndestroy_ptr #144\n")).0
    ≡ codes "#144\n0\ntrue\n64\nerror 6 not found\n"
unfolding run
small_remainder = refl

-- a full segment
full : (run (whole_language 2) Write (empty 192) (codes "construct i64 - 5\nfree\nconstruct i64 - 6\nshow #144\n")).0
    ≡ codes "#144\n0\nerror 9 no space\ni64 5\n"
unfolding run
full = refl

-- of two gaps of one length the first is taken
tie : (run (whole_language 2) Write (empty 1024)
    (codes
    "construct i64 - 1\nconstruct i64 - 1\nconstruct i64 - 1\nconstruct i64 - 1\ndestroy_ptr #144\ndestroy_ptr #240\nconstruct i64 - 2\n")).0
    ≡ codes "#144\n#192\n#240\n#288\ntrue\ntrue\n#144\n"
unfolding run
tie = refl

-- a released block is merged with the gaps round it
merged : (run (whole_language 2) Write (empty 1024)
    (codes
    "construct i64 - 1\nconstruct i64 - 1\nconstruct i64 - 1\nconstruct i64 - 1\ndestroy_ptr #144\ndestroy_ptr #240\ndestroy_ptr #192\nblocks\n")).0
    ≡ codes "#144\n#192\n#240\n#288\ntrue\ntrue\ntrue\n128 144 free\n272 48 object\n320 688 free\nend\n"
unfolding run
merged = refl

-- names rise, and a full index grows
index_grows : (run (whole_language 2) Write (empty 1024)
    (codes
    "construct i64 e 1\nconstruct i64 d 1\nconstruct i64 c 1\nconstruct i64 b 1\nconstruct i64 a 1\nfree\nlist\n")).0
    ≡ codes
    "#192\n#240\n#288\n#336\n#464\n560\na i64 1 #464\nb i64 1 #336\nc i64 1 #288\nd i64 1 #240\ne i64 1 #192\nend\n"
unfolding run
index_grows = refl

-- the old index leaves a gap
old_index_gap : (run (whole_language 2) Write (empty 1024)
    (codes
    "construct i64 e 1\nconstruct i64 d 1\nconstruct i64 c 1\nconstruct i64 b 1\nconstruct i64 a 1\nconstruct i64 f 6\n")).0
    ≡ codes "#192\n#240\n#288\n#336\n#464\n#144\n"
unfolding run
old_index_gap = refl

-- an array of three
array : (run (whole_language 2) Write (empty 1024)
    (codes
    "construct i64[3] v 7\nshow v\nfree\nconstruct_it i64[3] w 1 2\nconstruct string[2] s \"a\"\nconstruct u8 x 300\n")).0
    ≡ codes "#192\ni64[3] 7 7 7\n768\nerror 3 bad syntax\nerror 3 bad syntax\nerror 3 bad syntax\n"
unfolding run
array = refl

-- a vector grows in place, and then in a new block
vector_grows : (run (whole_language 2) Write (empty 1024)
    (codes
    "construct vec<i64> v\npush v 1\npush v 2\npush v 3\npush v 4\npush v 5\nfree\ninfo v\nconstruct i64 - 9\npush v 6\npush v 7\npush v 8\npush v 9\nblocks\nfree\n")).0
    ≡ codes
    "#192\nok\nok\nok\nok\nok\n688\nnamed v vec<i64> 1 #192 5 8\n#336\nok\nok\nok\nok\n128 48 index\n176 64 object\n240 80 free\n320 48 object\n368 144 storage\n512 496 free\nend\n576\n"
unfolding run
vector_grows = refl

-- objects are found, made where there is none, and destroyed
find_and_destroy : (run (whole_language 2) Write (empty 1024)
    (codes
    "construct i64 a 5\nfree\nshow a\ninfo a\nfind i64 a\nfind u8 a\nfind i64 b\nconstruct u8 a 1\nfind_or_construct i64[3] a 9\nshow a\ndestroy a\ndestroy a\nfree\nshow a\n")).0
    ≡ codes
    "#192\n784\ni64 5\nnamed a i64 1 #192\n#192 1\nerror 7 wrong kind\nnone\nerror 5 already exists\n#192 1\ni64 5\ntrue\nfalse\n832\nerror 6 not found\n"
unfolding run
find_and_destroy = refl

-- pairs rise, and each has a block of its own
map : (run (whole_language 2) Write (empty 1024)
    (codes
    "construct map<i64,i64> m\nput m 4 40\nput m 2 20\nput m 6 60\nput m 1 10\nput m 3 30\nput m 5 50\nput m 7 70\nremove m 4\nshow m\nfree\nblocks\nput m 1 11\nlookup m 4\nremove m 4\n")).0
    ≡ codes
    "#192\ntrue\ntrue\ntrue\ntrue\ntrue\ntrue\ntrue\ntrue\nmap<i64,i64> 1=10 2=20 3=30 5=50 6=60 7=70\n480\n128 48 index\n176 64 object\n240 48 free\n288 48 node\n336 48 node\n384 48 node\n432 48 node\n480 48 node\n528 48 node\n576 432 free\nend\nfalse\nnone\nfalse\n"
unfolding run
map = refl

-- an index that was reserved
reserved_index : (run (whole_language 2) Write (empty 1024)
    (codes
    "reserve_named 10\nconstruct i64 n0 0\nconstruct i64 n1 0\nconstruct i64 n2 0\nconstruct i64 n3 0\nconstruct i64 n4 0\nconstruct i64 n5 0\nconstruct i64 n6 0\nconstruct i64 n7 0\nconstruct i64 n8 0\nconstruct i64 n9 0\nfree\nconstruct i64 na 1\nfree\n")).0
    ≡ codes "ok\n#240\n#288\n#336\n#384\n#432\n#480\n#528\n#576\n#624\n#672\n304\n#896\n176\n"
unfolding run
reserved_index = refl

-- a string grows and shrinks
string : (run (whole_language 2) Write (empty 1024)
    (codes
    "construct string s \"ab\"\nappend s \"cdefg\"\ninfo s\nfree\nshrink s\nappend s \"0123456789\"\ninfo s\nfree\nget s 0\nclear s\nshow s\nshrink s\nfree\n")).0
    ≡ codes
    "#192\nok\nnamed s string 1 #192 7 16\n736\nok\nok\nnamed s string 1 #192 17 17\n720\n97\nok\nstring \"\"\nok\n768\n"
unfolding run
string = refl

-- elements are put in, taken out and refused
vector : (run (whole_language 2) Write (empty 1024)
    (codes
    "construct vec<i32> w 1 2 3\ninsert w 1 9\nshow w\ninfo w\nerase w 0\npop w\nget w 5\nset w 7 true\nset w 0 3000000000\ninsert w 3 1\nappend w \"x\"\nreserve w 1000\nshow w\n")).0
    ≡ codes
    "#192\nok\nvec<i32> 1 9 2 3\nnamed w vec<i32> 1 #192 4 6\nok\n3\nerror 8 out of range\nerror 7 wrong kind\nerror 8 out of range\nerror 8 out of range\nerror 7 wrong kind\nerror 9 no space\nvec<i32> 9 2\n"
unfolding run
vector = refl

-- one object of a kind
unique : (run (whole_language 2) Write (empty 1024)
    (codes
    "construct u64 @u64 9\nconstruct u64 @u64 1\nfind u8 @u64\nunique\ninfo @u64\ndestroy @u64\nnum_unique\nfree\nshrink_indexes\nall_deallocated\nfree\n")).0
    ≡ codes
    "#192\nerror 5 already exists\nerror 3 bad syntax\nu64 1 #192\nend\nunique - u64 1 #192\ntrue\n0\n832\nok\ntrue\n880\n"
unfolding run
unique = refl

-- the least segment
least_segment : (run (whole_language 2) Write (empty 144)
    (codes "size\nfree\nblocks\nconstruct bool - true\nfrobnicate\n# note\n\n")).0
    ≡ codes "144\n0\nend\nerror 9 no space\nerror 1 unknown command\n"
unfolding run
least_segment = refl

-- indexes are cut to what they hold
shrink_indexes : (run (whole_language 2) Write (empty 1024)
    (codes
    "reserve_named 5\nreserve_unique 1\nconstruct i64 a 1\nconstruct i64 b 1\nconstruct i64 c 1\nconstruct i64 d 1\nfree\nshrink_indexes\nfree\nshrink_indexes\nfree\n")).0
    ≡ codes "ok\nok\n#240\n#288\n#336\n#384\n592\nok\n624\nok\n640\n"
unfolding run
shrink_indexes = refl

-- texts and names are printed with escapes
escapes : (run (whole_language 2) Write (empty 1024)
    (codes
    "construct string s \"a\\\"\\\\\\x00\\xc3\\xa9 z\"\nshow s\nconstruct i64 \"a b\" -1\ninfo \"a b\"\nlist\n")).0
    ≡ codes
    "#192\nstring \"a\\\"\\\\\\x00\\xc3\\xa9 z\"\n#288\nnamed \"a b\" i64 1 #288\n\"a b\" i64 1 #288\ns string 1 #192\nend\n"
unfolding run
escapes = refl

-- a string of ten bytes where it does not fit, and where it just fits
text_in_176 : (run (whole_language 2) Write (empty 176) (codes "construct string s \"0123456789\"\nfree\nblocks\n")).0
    ≡ codes "error 9 no space\n32\n128 32 free\nend\n"
unfolding run
text_in_176 = refl

text_in_288 : (run (whole_language 2) Write (empty 288) (codes "construct string s \"0123456789\"\nfree\n")).0
    ≡ codes "#192\n0\n"
unfolding run
text_in_288 = refl

-- a segment that is open for reading
read_only : (run (whole_language 2) ReadOnly (empty 1024) (codes "construct i64 z 1\ndestroy q\nnum_named\n")).0
    ≡ codes "error 4 read only\nerror 4 read only\n0\n"
unfolding run
read_only = refl

text_in_192 : (run (whole_language 2) Write (empty 192) (codes "construct string s \"0123456789\"\nfree\nblocks\n")).0
    ≡ codes "error 9 no space\n48\n128 48 free\nend\n"
unfolding run
text_in_192 = refl

text_in_256 : (run (whole_language 2) Write (empty 256) (codes "construct string s \"0123456789\"\nfree\nblocks\n")).0
    ≡ codes "error 9 no space\n112\n128 112 free\nend\n"
unfolding run
text_in_256 = refl

text_in_272 : (run (whole_language 2) Write (empty 272) (codes "construct string s \"0123456789\"\nfree\nblocks\n")).0
    ≡ codes "error 9 no space\n128\n128 128 free\nend\n"
unfolding run
text_in_272 = refl

-- a vector of strings, each in a block of its own
texts : (run (whole_language 2) Write (empty 1024)
    (codes
    "construct vec<string> v \"a\" \"bc\"\nfree\ninfo v\npush v \"def\"\nfree\npop v\nfree\nset v 0 \"\"\nset v 0 5\nshow v\nblocks\ndestroy v\nfree\n")).0
    ≡ codes
    "#192\n656\nnamed v vec<string> 1 #192 2 2\nok\n592\n\"def\"\n624\nok\nerror 7 wrong kind\nvec<string> \"\" \"bc\"\n128 48 index\n176 64 object\n240 80 free\n320 32 storage\n352 80 storage\n432 576 free\nend\ntrue\n832\n"
unfolding run
texts = refl

-- a vector of strings that does not fit leaves nothing after
texts_without_room : (run (whole_language 2) Write (empty 288) (codes "construct vec<string> v \"a\"\nfree\n")).0
    ≡ codes "error 9 no space\n144\n"
unfolding run
texts_without_room = refl

-- where a string has no fit, the array that was lengthened for it is as before
text_without_room : (run (whole_language 2) Write (empty 352)
    (codes "construct vec<string> v \"\"\nfree\npush v \"x\"\nfree\ninfo v\npush v \"\"\nfree\ninfo v\n")).0
    ≡ codes "#192\n64\nerror 9 no space\n64\nnamed v vec<string> 1 #192 1 1\nok\n0\nnamed v vec<string> 1 #192 2 4\n"
unfolding run
text_without_room = refl

-- a name of 255 bytes in format 2
long_name : (run (whole_language 2) Write (empty 1024)
    (codes
    "construct i64 aaaaaaaaaaaaaaaaaaaaaaaaaaaaaaaaaaaaaaaaaaaaaaaaaaaaaaaaaaaaaaaaaaaaaaaaaaaaaaaaaaaaaaaaaaaaaaaaaaaaaaaaaaaaaaaaaaaaaaaaaaaaaaaaaaaaaaaaaaaaaaaaaaaaaaaaaaaaaaaaaaaaaaaaaaaaaaaaaaaaaaaaaaaaaaaaaaaaaaaaaaaaaaaaaaaaaaaaaaaaaaaaaaaaaaaaaaaaaaaaaaaaaaaaaaaaaaa 1\nfree\nconstruct i64 aaaaaaaaaaaaaaaaaaaaaaaaaaaaaaaaaaaaaaaaaaaaaaaaaaaaaaaaaaaaaaaaaaaaaaaaaaaaaaaaaaaaaaaaaaaaaaaaaaaaaaaaaaaaaaaaaaaaaaaaaaaaaaaaaaaaaaaaaaaaaaaaaaaaaaaaaaaaaaaaaaaaaaaaaaaaaaaaaaaaaaaaaaaaaaaaaaaaaaaaaaaaaaaaaaaaaaaaaaaaaaaaaaaaaaaaaaaaaaaaaaaaaaaaaaaaaaaa 1\n")).0
    ≡ codes "#192\n528\nerror 3 bad syntax\n"
unfolding run
long_name = refl

-- a name with a letter outside ASCII
utf8_name : (run (whole_language 2) Write (empty 1024)
    (codes "construct i64 \"\\xc3\\xa9\" 1\nlist\nconstruct i64 \"\\xff\" 1\nconstruct i64 \"\\xc2\\x85\" 1\n")).0
    ≡ codes "#192\n\"\\xc3\\xa9\" i64 1 #192\nend\nerror 3 bad syntax\nerror 3 bad syntax\n"
unfolding run
utf8_name = refl

-- in formats 0 and 1 a name is printable and has at most 63 bytes
printable_name : (run (whole_language 1) Write (empty 1024)
    (codes
    "construct i64 \"\\xc3\\xa9\" 1\nconstruct i64 aaaaaaaaaaaaaaaaaaaaaaaaaaaaaaaaaaaaaaaaaaaaaaaaaaaaaaaaaaaaaaaa 1\nconstruct vec<string> v\n")).0
    ≡ codes "error 3 bad syntax\nerror 3 bad syntax\nerror 3 bad syntax\n"
unfolding run
printable_name = refl

-- objects under keys, in the current format
current_names : (run (whole_language current) Write (empty 1024)
    (codes
    "construct i64 a 5\nfind_or_construct i64[3] a 9\nconstruct_it u8[2] @u8 7 8\nlist\nunique\nshow @u8\nget @u8 1\nset a 0 -1\ndestroy a\nnum_unique\n")).0
    ≡ codes "#192\n#192 1\n#288\na i64 1 #192\nend\nu8 2 #288\nend\nu8[2] 7 8\n8\nok\ntrue\n1\n"
unfolding run current
current_names = refl

-- a last line without an end is a line too, and nothing after a last end is one
no_last_line_end : (run (whole_language 2) Write (empty 176) (codes "size\nfree")).0
    ≡ codes "176\n32\n"
unfolding run
no_last_line_end = refl
