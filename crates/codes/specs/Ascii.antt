-- The control codes by their standard names.
use Rattle.std.specs.Prelude.{ℕ}

abbrev pub NUL : ℕ
NUL = 0x00

abbrev pub SOH : ℕ
SOH = 0x01

abbrev pub STX : ℕ
STX = 0x02

abbrev pub ETX : ℕ
ETX = 0x03

abbrev pub EOT : ℕ
EOT = 0x04

abbrev pub ENQ : ℕ
ENQ = 0x05

abbrev pub ACK : ℕ
ACK = 0x06

abbrev pub BEL : ℕ
BEL = 0x07

abbrev pub BS : ℕ
BS = 0x08

abbrev pub HT : ℕ
HT = 0x09

abbrev pub LF : ℕ
LF = 0x0A

abbrev pub VT : ℕ
VT = 0x0B

abbrev pub FF : ℕ
FF = 0x0C

abbrev pub CR : ℕ
CR = 0x0D

abbrev pub SO : ℕ
SO = 0x0E

abbrev pub SI : ℕ
SI = 0x0F

abbrev pub DLE : ℕ
DLE = 0x10

abbrev pub DC1 : ℕ
DC1 = 0x11

abbrev pub DC2 : ℕ
DC2 = 0x12

abbrev pub DC3 : ℕ
DC3 = 0x13

abbrev pub DC4 : ℕ
DC4 = 0x14

abbrev pub NAK : ℕ
NAK = 0x15

abbrev pub SYN : ℕ
SYN = 0x16

abbrev pub ETB : ℕ
ETB = 0x17

abbrev pub CAN : ℕ
CAN = 0x18

abbrev pub EM : ℕ
EM = 0x19

abbrev pub SUB : ℕ
SUB = 0x1A

abbrev pub ESC : ℕ
ESC = 0x1B

abbrev pub FS : ℕ
FS = 0x1C

abbrev pub GS : ℕ
GS = 0x1D

abbrev pub RS : ℕ
RS = 0x1E

abbrev pub US : ℕ
US = 0x1F

abbrev pub SPACE : ℕ
SPACE = 0x20
